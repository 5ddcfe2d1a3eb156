mod DriftLaws
mod ExcessLaws
mod ValidLaws
mod LevelLaws
mod RowLaws
mod SizeLaws
