-- What proofs alone speak of: no contract of a public function names it.
pub mod PlaceParts
pub mod SoundParts
