-- That a run hides no fault of its shelf or its sink.
use Rattle.std.specs.Prelude.{◌≡◌, ◌⊎◌, ℕ, ◌<◌, List}
use Rattle.crude_run.specs.Numbers.{status_read_failed, status_too_long, status_no_memory, status_write_failed}
use Rattle.crude_run.specs.Files.{Files}
use Rattle.crude_run.specs.Answered.{Outlet}

-- the status is this one, or tells that memory ran out or that the text could not be written
abbrev pub EndsWith : ℕ → ℕ → Type 0
EndsWith due status = (status ≡ due) ⊎ (status ≡ status_no_memory) ⊎ (status ≡ status_write_failed)

-- each fault that was counted in the run shows in its status
pub record HidesNoFault (files : Files) (outlet : Outlet) (status : ℕ) : Type 0 where
  -- reads of a file failed: the run says that a file could not be read
  pub failed : (name : List ℕ) → files.faults_before name < files.faults_after name → EndsWith status_read_failed status
  -- a file was longer than a limit: the run says that a file is too long
  pub longer : (name : List ℕ) (limit : ℕ) → files.longs_before name limit < files.longs_after name limit →
      EndsWith status_too_long status
  -- a write failed: the run says that the text could not be written
  pub cut_off : outlet.faults_before < outlet.faults_after → status ≡ status_write_failed
