-- What a run may have read, by what its shelf tells and counts.
use Rattle.std.specs.Prelude.{◌≡◌, ℕ, ◌<◌, ◌≤◌, List, length, Option, IfSome}
use Rattle.outer_edge.specs.Rose.{Rose}

-- what the shelf tells of the files by name, and its counts of faults before and after the run
pub record Files : Type 0 where
  pub told : List ℕ → Option (List ℕ)
  pub faults_before : List ℕ → ℕ
  pub faults_after : List ℕ → ℕ
  pub longs_before : List ℕ → ℕ → ℕ
  pub longs_after : List ℕ → ℕ → ℕ

-- the files between two states of a shelf that tells and counts so
abbrev pub files_between : {Shelf : Type 0} → (Shelf → List ℕ → Option (List ℕ)) → (Shelf → List ℕ → ℕ) →
    (Shelf → List ℕ → ℕ → ℕ) → Shelf → Shelf → Files
files_between told faults longs before after =
    record {
      told = told before;
      faults_before = faults before;
      faults_after = faults after;
      longs_before = longs before;
      longs_after = longs after;
    }

-- what reading a file gave, want of memory aside
pub data FileRead : Type 0 where
  bytes : List ℕ → FileRead
  failed : FileRead
  longer : FileRead

-- reading the file of this name within the limit may have given this: its bytes, where they are told; a
-- failure only where the count of that name rose; too long a file only where the count of that name and
-- limit rose, and the file, where it is told, has more bytes than the limit
abbrev pub MayGive : Files → List ℕ → ℕ → FileRead → Type 0
MayGive files name limit (bytes found) = (length found ≤ limit) × IfSome (files.told name) (λ file. found ≡ file)
MayGive files name limit failed = Rose (files.faults_before name) (files.faults_after name)
MayGive files name limit longer = Rose (files.longs_before name limit) (files.longs_after name limit) ×
    IfSome (files.told name) (λ file. limit < length file)
