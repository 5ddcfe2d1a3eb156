pub mod ChoosingLaws
pub mod CountLists
pub mod GatherLaws
pub mod NoteLaws
pub mod TableLaws
pub mod WrittenLaws
