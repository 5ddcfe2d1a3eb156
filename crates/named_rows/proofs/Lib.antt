mod RangeLaws
mod ObjectiveLaws
mod BoundLaws
mod NarrowLaws
