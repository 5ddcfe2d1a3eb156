-- Rows on what units get.
use Rattle.std.proofs.Common.{◌≡◌, ℕ, ◌+◌, ◌-◌, ◌<◌, inl, inr, Bool, true, false, List, length, ℤ, if◌then◌else◌, ap, sym, ◌∙◌, refl, arith}
use Rattle.std.specs.Prelude.{◌&&◌, IsTrue}
use Rattle.std.proofs.lemmas.Bool.{cases_eq, eq-eqb, ne_eqb, lt-ltb, le-ltb}
use Rattle.std.proofs.lemmas.Int.{ints}
use Rattle.number_laws.proofs.SumLaws.{sum_below-cut, sum_below-same, sum_below-sum}
use Rattle.plant_model.specs.declared.parts.Parts.{Parts}
use Rattle.plant_model.specs.declared.details.OpKind.{OpKind}
use Rattle.plant_model.specs.declared.details.OpKind.TheVariants.{Unload, Transfer, Charge}
use Rattle.plant_model.specs.declared.details.PlaceKind.{PlaceKind}
use Rattle.plant_model.specs.declared.details.PlaceKind.TheVariants.{Storage, Charging, Unit as DistillationUnit}
use Rattle.plant_model.specs.Parts.{place_count_of, place_of, op_of}
use Rattle.plant_model.specs.Relations.{is_charge}
use Rattle.plant_model.specs.Sound.{SoundPlant, IsRoute}
use Rattle.replay_core.specs.declared.timed.Timed.{Timed}
use Rattle.replay_core.specs.Steps.{step_at}
use Rattle.replay_core.specs.Counts.{charges_unit, minutes_of}
use Rattle.row_forms.specs.declared.piece.Figure.{Figure}
use Rattle.row_forms.specs.declared.piece.Figure.TheVariants.{Choice, Start, End}
use Rattle.row_forms.specs.Sums.{figure_of, piece_sum}
use Rattle.word_flows.specs.Flows.{fills}
use Rattle.word_flows.specs.Runs.{IsRun}
use Rattle.word_flows.specs.Sums.{sum_over}
use Rattle.word_flows.proofs.RunLaws.{soundly, runs_are_in_range}
use Rattle.word_flows.proofs.SumLaws.{counts_are_sums}
use Rattle.tank_rows.specs.Families.{plus, minus, into_place, minutes_row, charges_row}
use Rattle.tank_rows.proofs.FlowLaws.{Holds, IsWord, into-sum}

-- ---- what fills a unit charges it

charge-to : (kind : OpKind) (from to : PlaceKind) → IsRoute kind from to → to ≡ DistillationUnit → is_charge kind ≡ true
charge-to Unload from to route is = (let same : Storage ≡ DistillationUnit = sym route.1 ∙ is in cc)
charge-to Transfer from to route is = (let same : Charging ≡ DistillationUnit = sym route.1 ∙ is in cc)
charge-to Charge from to route is = refl

and-false : (a : Bool) → (a && false) ≡ false
and-false true = refl
and-false false = refl

fills-unit : (parts : Parts) (word : List Timed) (p k : ℕ) → SoundPlant parts → IsRun parts word → (place_of parts p).kind ≡ DistillationUnit → k < length word →
    fills parts word p k ≡ charges_unit parts p (step_at word k)
fills-unit parts word p k sound run unit there =
    let op = op_of parts (step_at word k).op in
    elim (cases_eq op.to p) [
      | inl same ↦
          let route = (soundly parts word k sound run there).sound.route in
          let charge = charge-to op.kind (place_of parts op.from).kind (place_of parts op.to).kind route (ap (λ (q : ℕ). (place_of parts q).kind) same ∙ unit) in
          rw (lt-ltb k (length word) there, eq-eqb op.to p same, charge) refl
      | inr other ↦ rw (lt-ltb k (length word) there, ne_eqb op.to p other, and-false (is_charge op.kind)) refl
    ]

-- what the pieces take of a unit is a sum over its charges
unit-sum : (parts : Parts) (n : ℕ) (word : List Timed) (factor : ℤ) (p : ℕ) (figure : Figure) (number : Timed → ℕ) → IsWord parts n word →
    (place_of parts p).kind ≡ DistillationUnit → ((k : ℕ) → figure_of parts word k figure ≡ number (step_at word k)) →
    piece_sum parts n word (into_place factor p n figure) ≡ sum_over word (charges_unit parts p) number
unit-sum parts n word factor p figure number is unit agrees =
    let f = λ (k : ℕ). if fills parts word p k then figure_of parts word k figure else 0 in
    into-sum parts n word factor p n figure is.sound is.run (omega arith)
    ∙ (sum_below-cut (length word) n f is.short (λ k under past. rw (le-ltb k (length word) past) refl)
    ∙ sum_below-same (length word) f (λ k. if charges_unit parts p (step_at word k) then number (step_at word k) else 0)
    (λ k there. rw (fills-unit parts word p k is.sound is.run unit there) (ap (λ (m : ℕ). if charges_unit parts p (step_at word k) then m else 0) (agrees k))))

-- ---- charges

pub charges-first : (parts : Parts) (n : ℕ) (word : List Timed) (p : ℕ) → IsWord parts n word → p < place_count_of parts → (place_of parts p).kind ≡ DistillationUnit →
    Holds parts n word (charges_row parts n p 0)
charges-first parts n word p is place unit =
    let taken = unit-sum parts n word plus p Choice (λ _. 1) is unit (λ k. refl) in
    let counted = (counts_are_sums parts word p).charges in
    let kept = (is.ends.charges p place unit).to_high in
    omega (arith, ints)

pub charges-second : (parts : Parts) (n : ℕ) (word : List Timed) (p : ℕ) → IsWord parts n word → p < place_count_of parts → (place_of parts p).kind ≡ DistillationUnit →
    Holds parts n word (charges_row parts n p 1)
charges-second parts n word p is place unit =
    let taken = unit-sum parts n word minus p Choice (λ _. 1) is unit (λ k. refl) in
    let counted = (counts_are_sums parts word p).charges in
    let kept = (is.ends.charges p place unit).from_low in
    omega (arith, ints)

-- ---- minutes

chosen-sum : (b : Bool) (s e : ℕ) → s < e → (if b then e else 0) ≡ (if b then s else 0) + (if b then e - s else 0)
chosen-sum true s e less = omega arith
chosen-sum false s e less = refl

-- ends come to starts and minutes
ends-sum : (parts : Parts) (word : List Timed) (p : ℕ) → IsRun parts word →
    sum_over word (charges_unit parts p) (λ (t : Timed). t.end) ≡ sum_over word (charges_unit parts p) (λ (t : Timed). t.start) + minutes_of parts word p
ends-sum parts word p run =
    let chosen = λ (k : ℕ). charges_unit parts p (step_at word k) in
    let minutes = (counts_are_sums parts word p).minutes in
    let both = sum_below-sum (length word) (λ k. if chosen k then (step_at word k).end else 0) (λ k. if chosen k then (step_at word k).start else 0)
    (λ k. if chosen k then (step_at word k).end - (step_at word k).start else 0)
    (λ k there. chosen-sum (chosen k) (step_at word k).start (step_at word k).end (runs_are_in_range parts word k run there).lasts) in
    omega arith

pub minutes-first : (parts : Parts) (n : ℕ) (word : List Timed) (p : ℕ) → IsWord parts n word → p < place_count_of parts → (place_of parts p).kind ≡ DistillationUnit →
    IsTrue (place_of parts p).continuous → Holds parts n word (minutes_row parts n p 0)
minutes-first parts n word p is place unit continuous =
    let ends = unit-sum parts n word plus p End (λ (t : Timed). t.end) is unit (λ k. refl) in
    let starts = unit-sum parts n word minus p Start (λ (t : Timed). t.start) is unit (λ k. refl) in
    let both = ends-sum parts word p is.run in
    let kept = is.ends.minutes p place unit continuous in
    omega (arith, ints)

pub minutes-second : (parts : Parts) (n : ℕ) (word : List Timed) (p : ℕ) → IsWord parts n word → p < place_count_of parts → (place_of parts p).kind ≡ DistillationUnit →
    IsTrue (place_of parts p).continuous → Holds parts n word (minutes_row parts n p 1)
minutes-second parts n word p is place unit continuous =
    let ends = unit-sum parts n word minus p End (λ (t : Timed). t.end) is unit (λ k. refl) in
    let starts = unit-sum parts n word plus p Start (λ (t : Timed). t.start) is unit (λ k. refl) in
    let both = ends-sum parts word p is.run in
    let kept = is.ends.minutes p place unit continuous in
    omega (arith, ints)
