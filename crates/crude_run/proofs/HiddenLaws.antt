-- A run hides no fault.
use Rattle.std.proofs.Common.{◌≡◌, ℕ, ◌<◌, ◌≤◌, List, Option, Result, Ok, Err, inl, inr, sym, ap, ◌∙◌, arith}
use Rattle.std.proofs.lemmas.Bool.{cases_eq}
use Rattle.crude_run.specs.declared.answer.Answer.{Answer}
use Rattle.crude_run.specs.declared.opening.Stop.{Stop}
use Rattle.crude_run.specs.declared.opening.Stop.TheVariants as stop
use Rattle.crude_run.specs.Numbers.{status_no_memory, status_write_failed}
use Rattle.crude_run.specs.Files.{Files, files_between}
use Rattle.crude_run.specs.Answered.{Outlet, Answered}
use Rattle.crude_run.specs.Hidden.{EndsWith, HidesNoFault}
use Rattle.crude_run.specs.Stopping.{IsDue, IsLater, StopsWith, ShowsFaults}

-- ---- reads

-- a command that goes on, and one that stops
abbrev pub went : {X : Type 0} → X → Result X Stop
went x = Ok x

abbrev pub halted : {X : Type 0} → Stop → Result X Stop
halted stopped = Err stopped

-- a command that has read a file goes on without a fault, or stops there with the same answer
pub ShowsFaults-on : {X Y : Type 0} (files : Files) (read : X) (made : Result Y Stop) → ShowsFaults files (went read) → ShowsFaults files made
ShowsFaults-on files read made shown = record {
  failed = λ name rose. absurd (shown.failed name rose);
  longer = λ name limit rose. absurd (shown.longer name limit rose);
}

pub ShowsFaults-stopped : {X Y : Type 0} (files : Files) (stopped : Stop) → ShowsFaults files (halted {X = X} stopped) →
    ShowsFaults files (halted {X = Y} stopped)
ShowsFaults-stopped files stopped shown = record { failed = shown.failed; longer = shown.longer }

module _ {Shelf : Type 0} (told : Shelf → List ℕ → Option (List ℕ)) (faults : Shelf → List ℕ → ℕ) (longs : Shelf → List ℕ → ℕ → ℕ)
    (before between after : Shelf) where
  -- two reads, of which the first showed no fault
  pub ShowsFaults-both : {X Y : Type 0} (read : X) (made : Result Y Stop) → IsLater told faults longs before between
      → ShowsFaults (files_between told faults longs before between) (went read) → ShowsFaults (files_between told faults longs between after) made
      → ShowsFaults (files_between told faults longs before after) made
  ShowsFaults-both read made later first second = record {
    failed = λ name rose. by_first (faults before name) (faults between name) (faults after name) (later.faults_stay name) rose (first.failed name)
        (second.failed name);
    longer = λ name limit rose. by_first (longs before name limit) (longs between name limit) (longs after name limit) (later.longs_stay name limit) rose
        (first.longer name limit) (second.longer name limit);
  }
    where
      by_first : {P : Type 0} (low mid high : ℕ) → low ≤ mid → low < high → (low < mid → ⊥) → (mid < high → P) → P
      by_first low mid high stays rose none then = then (omega arith)

-- ---- the end

-- a command that stops with a status ends with it
ends : (due : ℕ) (outcome : Result Answer Stop) (outlet : Outlet) (status : ℕ) → StopsWith due outcome → Answered (IsDue outcome) outlet status →
    EndsWith due status
ends due outcome outlet status stops answered =
    elim (cases_eq status status_no_memory) [
      | inl full ↦ inr (inl full)
      | inr room ↦
          elim (cases_eq status status_write_failed) [
            | inl cut ↦ inr (inr cut)
            | inr sent ↦ let whole = answered.whole room sent in inl (sym whole.1 ∙ of_due outcome whole.0 stops whole.2)
          ]
    ]
  where
    of_due : (made : Result Answer Stop) (answer : Answer) → StopsWith due made → IsDue made answer → answer.status ≡ due
    of_due (Ok found) answer stopped same = absurd stopped
    of_due (Err (stop.Due found)) answer stopped same = ap (λ a. a.status) same ∙ stopped
    of_due (Err stop.Memory) answer stopped same = absurd same

-- so a run whose reads show their faults hides none
pub HidesNoFault-from : (files : Files) (outcome : Result Answer Stop) (outlet : Outlet) (status : ℕ) → ShowsFaults files outcome →
    Answered (IsDue outcome) outlet status
    → (outlet.faults_before < outlet.faults_after → status ≡ status_write_failed) → HidesNoFault files outlet status
HidesNoFault-from files outcome outlet status shown answered cut_off = record {
  failed = λ name rose. ends _ outcome outlet status (shown.failed name rose) answered;
  longer = λ name limit rose. ends _ outcome outlet status (shown.longer name limit rose) answered;
  cut_off = cut_off;
}
