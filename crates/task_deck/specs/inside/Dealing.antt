-- The rule of a deck: what the tasks in it say of the views of owner and passes.
use Rattle.std.specs.Prelude.{◌≡◌, ℕ, suc, ◌<◌, ◌≤◌, true, false, List, [], ◌++◌, length, Contains}
use mathlib.Core.Option.{some}
use lib.ListN.{get_elem?}
use Rattle.slot_box.specs.Tasks.{TaskParts}
use Rattle.task_deck.specs.Accounts.{Takes, tasks_of, taken_by}
use Rattle.task_deck.specs.declared.hand.Taken.{Taken}
use Rattle.task_deck.specs.declared.hand.Hand.{Hand}
use Rattle.task_deck.specs.inside.Hands.{gone_hand}

-- what is known of passes is what they took, and they are gone
pub record IsKnown (takes : Takes) (views : List Hand) (known : Taken) : Type 0 where
  pub tasks : known.tasks ≡ taken_by (suc known.pass) takes
  pub gone : get_elem? views (suc known.pass) ≡ some gone_hand

-- the owner is the first view. What it pushed are the tasks that left, and then those that the deck holds
pub record IsOwner (takes : Takes) (items : List TaskParts) (views : List Hand) (port : ℕ) (v : Hand) : Type 0 where
  pub place : port ≡ 0
  pub made : length views ≡ suc v.passes
  pub pushed : v.pushed ≡ tasks_of takes ++ items
  pub taken : v.taken ≡ taken_by 0 takes
  pub no_other : (who : ℕ) → v.passes < who → taken_by who takes ≡ []
  pub known : (taken : Taken) → Contains v.known taken → IsKnown takes views taken

-- a pass stands at its number
pub record IsThief (takes : Takes) (port : ℕ) (v : Hand) : Type 0 where
  pub place : port ≡ suc v.number
  pub taken : v.taken ≡ taken_by port takes

-- a view is that of the owner, of a pass, or of a pass that was given back
pub record Fits (takes : Takes) (items : List TaskParts) (views : List Hand) (port : ℕ) (v : Hand) : Type 0 where
  pub owner : v.owns ≡ true → IsOwner takes items views port v
  pub thief : v.owns ≡ false → v.gone ≡ false → IsThief takes port v

-- the whole rule: there is an order in which tasks left, and who took them, which fits all views
pub record IsDealt (items : List TaskParts) (views : List Hand) : Type 0 where
  pub takes : Takes
  pub fits : (port : ℕ) (v : Hand) → get_elem? views port ≡ some v → Fits takes items views port v

-- what the owner learns when it takes a task: it has taken no more than it pushed, and where there is no pass, the next
-- that it pushed
pub record IsNext (v : Hand) (tasks : List TaskParts) : Type 0 where
  pub few : v.owns ≡ true → length (v.taken ++ tasks) ≤ length v.pushed
  pub alone : v.owns ≡ true → v.passes ≡ 0 → (rest : List TaskParts) × (v.pushed ≡ v.taken ++ tasks ++ rest)

-- what the owner learns when the deck is empty: each task that it pushed has left, to itself, to a pass that it knows
-- or to one that it does not know yet
pub record IsDealtOut (v : Hand) : Type 0 where
  pub takes : Takes
  pub pushed : v.pushed ≡ tasks_of takes
  pub taken : v.taken ≡ taken_by 0 takes
  pub no_other : (who : ℕ) → v.passes < who → taken_by who takes ≡ []
  pub known : (taken : Taken) → Contains v.known taken → taken.tasks ≡ taken_by (suc taken.pass) takes
  pub alone : v.passes ≡ 0 → v.pushed ≡ v.taken

-- if it is the owner
abbrev pub IsEmptyFor : Hand → Type 0
IsEmptyFor v = v.owns ≡ true → IsDealtOut v
