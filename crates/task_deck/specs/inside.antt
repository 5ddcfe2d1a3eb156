-- The rule that a deque and all views of it meet between any two steps.
pub mod Dealing
pub mod Hands
pub mod Returns
