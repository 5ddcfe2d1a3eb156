-- Slot forms: the points of boxes that can be read as plans, operation by operation in the order of slots, and those
-- among them that a search keeps to.
use Rattle.std.specs.Prelude.{◌≡◌, ℤ, nat_le, Bool, true, false, ◌&&◌, IsTrue, List, [], ◌∷◌, take, drop, length, Option, Some, None, if◌then◌else◌}
use Rattle.std.specs.List.{list_all}
use Rattle.std.specs.Option.{is_none}
use Rattle.replay_core.specs.declared.timed.Timed.{Timed}
use Rattle.normal_order.specs.NormalWords.{IsNormalWord}
use Rattle.replay_core.specs.declared.order.Order.TheVariants.{BySlot}
use Rattle.replay_core.specs.Legal.{first_broken_in}
use Rattle.replay_core.specs.Margin.{margin_of}
use Rattle.slot_box.specs.Boxes.{IsPoint}
use Rattle.slot_box.specs.Entries.{Entry, idle, runs}
use Rattle.slot_forms.specs.Cases.{Begun, Case, IsCasePlan, begun_count, root_box}

-- the word of a point: its operations in the order of slots, without idle entries
abbrev pub word_of : List Entry → List Timed
word_of [] = []
word_of (idle ∷ point) = word_of point
word_of (runs op start end volume ∷ point) = record { op = op; start = start; end = end; volume = volume }
    ∷ word_of point

-- no entry is an operation
abbrev pub is_all_idle : List Entry → Bool
is_all_idle [] = true
is_all_idle (idle ∷ point) = is_all_idle point
is_all_idle (runs op start end volume ∷ point) = false

-- a point is a slot form where its idle entries come last
abbrev pub is_form : List Entry → Bool
is_form [] = true
is_form (idle ∷ point) = is_all_idle point
is_form (runs op start end volume ∷ point) = is_form point

-- an operation as the entry of a slot
abbrev pub entry_of : Timed → Entry
entry_of t = runs t.op t.start t.end t.volume

-- ---- which points are plans

-- the operations of a word behind those that have begun
abbrev pub behind_begun : Option Begun → List Timed → List Timed
behind_begun begun word = drop (begun_count begun) word

-- the operations behind those that have begun start at the minute or later
abbrev pub starts_late : Option Begun → List Timed → Bool
starts_late None word = true
starts_late (Some begun) word =
    list_all (λ (t : Timed). nat_le begun.from t.start) (behind_begun (Some begun) word)

-- the point is a slot form, and its word breaks no rule, where only operations that need an order have to rise by their
-- starts; behind what has begun nothing starts too early
abbrev pub is_lawful_form : Case → List Entry → Bool
is_lawful_form case point =
    starts_late case.begun (word_of point) && is_form point
    && is_none (first_broken_in case.parts BySlot (word_of point))

-- the forms among which the plans of a case are sought: behind what has begun, no operation comes late that could have
-- come before a greater one
abbrev pub IsSought : Case → List Entry → Type 0
IsSought case point = IsNormalWord case.parts (behind_begun case.begun (word_of point))

-- the value of a point: the margin of its word, where it is a form whose word breaks no rule
abbrev pub point_value : Case → List Entry → Option ℤ
point_value case point = if is_lawful_form case point then Some (margin_of case.parts (word_of point)) else None

-- ---- laws

-- the word begins with the operations that have begun
abbrev pub BeginsWith : Option Begun → List Timed → Type 0
BeginsWith None word = Unit {0}
BeginsWith (Some begun) word = take (length begun.fixed) word ≡ begun.fixed

-- a point of the root box is a form of the plan: a lawful one that is sought, which begins as the plan does and has
-- the same margin
pub record IsFormOf (case : Case) (plan : List Timed) (point : List Entry) : Type 0 where
  pub there : IsPoint (root_box case) point
  pub lawful : IsTrue (is_lawful_form case point)
  pub begins : BeginsWith case.begun (word_of point)
  pub sought : IsSought case point
  pub margin : margin_of case.parts (word_of point) ≡ margin_of case.parts plan

-- each plan of the case has a form: a search that keeps to those that are sought misses no plan
abbrev pub PlansHaveForms : Case → Type 0
PlansHaveForms case = (plan : List Timed) → IsCasePlan case plan → (point : List Entry) × IsFormOf case plan point
