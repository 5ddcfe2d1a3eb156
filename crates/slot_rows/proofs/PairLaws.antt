-- Rows on two slots: cliques, normal order and the order of vessels.
use Rattle.std.proofs.Common.{◌≡◌, ℕ, ◌+◌, ◌-◌, ◌*◌, ◌<◌, ◌≤◌, inl, inr, true, List, [], ◌∷◌, length, drop, pos, ap, ap₂, sym, ◌∙◌, arith}
use Rattle.std.specs.Prelude.{nat_lt}
use Rattle.std.proofs.lemmas.Bool.{and_parts}
use Rattle.std.proofs.lemmas.Bool.Decides.{nat_tests}
use Rattle.std.proofs.lemmas.Int.{ints}
use Rattle.std.proofs.lemmas.List.{drop_more}
use Rattle.normal_order.specs.NormalWords.{IsNormalWord, ops_of}
use Rattle.normal_order.proofs.SeatLaws.{independent_is}
use Rattle.number_laws.proofs.BitLaws.{set_from_one}
use Rattle.overlap_graph.specs.Cliques.{IsClique}
use Rattle.plant_model.specs.declared.parts.Parts.{Parts}
use Rattle.plant_model.specs.Parts.{op_count_of, op_of, horizon_of}
use Rattle.plant_model.specs.Relations.{share_berth, independent_of}
use Rattle.plant_model.specs.Sound.{SoundPlant}
use Rattle.plant_model.proofs.RelationLaws.{independent_of-symmetric}
use Rattle.replay_core.specs.declared.timed.Timed.{Timed}
use Rattle.replay_core.specs.Rules.{unloads_later_vessel}
use Rattle.replay_core.specs.Steps.{no_step, step_at}
use Rattle.row_forms.specs.declared.piece.Figure.TheVariants.{Choice, Start, End}
use Rattle.row_forms.specs.declared.piece.Which.TheVariants.{One, Among}
use Rattle.row_forms.specs.Sums.{figure_at}
use Rattle.row_forms.proofs.PieceLaws.{one_slot_is_its_figure}
use Rattle.word_flows.specs.Runs.{IsRun}
use Rattle.word_flows.proofs.PairLaws.{runs_wait, vessels_take_turns}
use Rattle.word_flows.proofs.RunLaws.{runs_are_in_range}
use Rattle.slot_rows.specs.Families.{plus, minus, clique_row, not_both, normal_row, berth_row}
use Rattle.slot_rows.proofs.StandLaws.{Holds, Stands, stands-or, choice-one, among-figure, among-or}

-- ---- cliques

end-most : (parts : Parts) (word : List Timed) (k : ℕ) → SoundPlant parts → IsRun parts word → k < length word → (step_at word k).end ≤ horizon_of parts
end-most parts word k sound run there =
    let range = runs_are_in_range parts word k run there in
    let window = range.to_window in
    let last = (sound.each_op (step_at word k).op range.known).within_horizon in
    omega arith

-- the end in one slot, and start and choice in a later one
clique-figures : (parts : Parts) (word : List Timed) (clique i j : ℕ) → SoundPlant parts → IsRun parts word → IsClique parts clique → i < j →
    figure_at parts word (Among clique) End i + horizon_of parts * figure_at parts word (Among clique) Choice j
    ≤ horizon_of parts + figure_at parts word (Among clique) Start j
clique-figures parts word clique i j sound run is order =
    elim (among-or parts word clique j sound run) [
      | inr absent ↦
          let choice = ap (λ (x : ℕ). horizon_of parts * x) (absent Choice) in
          elim (among-or parts word clique i sound run) [
            | inr none ↦ (let end = none End in omega arith)
            | inl here ↦
                let end = among-figure parts word clique i End sound run here in
                let most = end-most parts word i sound run here.0 in
                omega arith
          ]
      | inl there ↦
          let start = among-figure parts word clique j Start sound run there in
          let choice = ap (λ (x : ℕ). horizon_of parts * x) (among-figure parts word clique j Choice sound run there) in
          elim (among-or parts word clique i sound run) [
            | inr none ↦ (let end = none End in omega arith)
            | inl here ↦
                let end = among-figure parts word clique i End sound run here in
                let refused = is.refused (step_at word i).op (step_at word j).op (set_from_one clique (step_at word i).op here.1)
                (set_from_one clique (step_at word j).op there.1) in
                let waits = runs_wait parts word i j run order there.0 refused in
                omega arith
          ]
    ]

pub clique-holds : (parts : Parts) (n : ℕ) (word : List Timed) (clique i j : ℕ) → SoundPlant parts → IsRun parts word → IsClique parts clique →
    1 ≤ i → i < j → j ≤ n → Holds parts n word (clique_row parts clique i j)
clique-holds parts n word clique i j sound run is some order within =
    let h = horizon_of parts in
    let end = one_slot_is_its_figure parts word n i plus (Among clique) End some (omega arith) in
    let start = one_slot_is_its_figure parts word n j minus (Among clique) Start (omega arith) within in
    let choice = ap (λ (x : ℕ). h * x) (one_slot_is_its_figure parts word n j (pos h) (Among clique) Choice (omega arith) within) in
    let figures = clique-figures parts word clique (i - 1) (j - 1) sound run is (omega arith) in
    omega (arith, ints)

-- ---- two choices that exclude each other

pub not_both-holds : (parts : Parts) (n : ℕ) (word : List Timed) (i x j y : ℕ) → SoundPlant parts → IsRun parts word → 1 ≤ i → i < j → j ≤ n →
    x < op_count_of parts → y < op_count_of parts → (Stands word x (i - 1) → Stands word y (j - 1) → ⊥) → Holds parts n word (not_both i x j y)
not_both-holds parts n word i x j y sound run some order within first_known second_known apart =
    let first = one_slot_is_its_figure parts word n i plus (One x) Choice some (omega arith) in
    let second = one_slot_is_its_figure parts word n j plus (One y) Choice (omega arith) within in
    let one = choice-one parts word x (i - 1) sound first_known in
    let other = choice-one parts word y (j - 1) sound second_known in
    elim (stands-or parts word x (i - 1) sound first_known) [
      | inr none ↦ (let nothing = none Choice in omega (arith, ints))
      | inl here ↦ elim (stands-or parts word y (j - 1) sound second_known) [
        | inr none ↦ (let nothing = none Choice in omega (arith, ints))
        | inl there ↦ absurd (apart here there)
      ]
    ]

-- ---- vessels take turns

later-vessel : (parts : Parts) (x y : ℕ) → unloads_later_vessel parts x y ≡ true →
    (share_berth parts (op_of parts x) (op_of parts y) ≡ true) × ((op_of parts y).from < (op_of parts x).from)
unfolding unloads_later_vessel
later-vessel parts x y is =
    let both = and_parts (share_berth parts (op_of parts x) (op_of parts y)) (nat_lt (op_of parts y).from (op_of parts x).from) is in
    (both.0, (let less = both.1 in grind (arith, nat_tests)))

pub berth-holds : (parts : Parts) (n : ℕ) (word : List Timed) (i j x y : ℕ) → SoundPlant parts → IsRun parts word → 1 ≤ i → i < j → j ≤ n →
    x < op_count_of parts → y < op_count_of parts → unloads_later_vessel parts x y ≡ true → Holds parts n word (berth_row i j x y)
berth-holds parts n word i j x y sound run some order within first_known second_known later =
    not_both-holds parts n word i x j y sound run some order within first_known second_known
    (λ here there.
    let vessels = later-vessel parts x y later in
    let berth : share_berth parts (op_of parts (step_at word (i - 1)).op) (op_of parts (step_at word (j - 1)).op) ≡ true =
    ap₂ (λ (v w : ℕ). share_berth parts (op_of parts v) (op_of parts w)) here.1 there.1 ∙ vessels.0 in
    let turns = vessels_take_turns parts word (i - 1) (j - 1) run (omega arith) there.0 berth in
    let first = ap (λ (v : ℕ). (op_of parts v).from) here.1 in
    let second = ap (λ (v : ℕ). (op_of parts v).from) there.1 in
    let less = vessels.1 in
    omega arith)

-- ---- normal order

-- from its slot on, a word is two operations and the rest
from-slot : (word : List Timed) (k : ℕ) → k + 1 < length word → drop k word ≡ step_at word k ∷ step_at word (k + 1) ∷ drop (k + 1 + 1) word
from-slot word k within =
    drop_more word k no_step (omega arith) ∙ ap (λ (rest : List Timed). step_at word k ∷ rest) (drop_more word (k + 1) no_step within)

pub normal-holds : (parts : Parts) (n : ℕ) (word : List Timed) (slot x y : ℕ) → SoundPlant parts → IsRun parts word →
    IsNormalWord parts (drop (slot - 1) word) →
    1 ≤ slot → slot < n → x < op_count_of parts → y < x → independent_of parts x y ≡ true → Holds parts n word (normal_row slot x y)
normal-holds parts n word slot x y sound run normal some before known less independent =
    not_both-holds parts n word slot x (slot + 1) y sound run some (omega arith) (omega arith) known (omega arith)
    (λ here there.
    let k = slot - 1 in
    let next : slot + 1 - 1 ≡ k + 1 = omega arith in
    let second : (step_at word (k + 1)).op ≡ y = ap (λ (j : ℕ). (step_at word j).op) (sym next) ∙ there.1 in
    let there_too = there.0 in
    let rest = drop (k + 1 + 1) word in
    let ops = ap ops_of (from-slot word k (omega arith)) ∙ ap₂ (λ (b a : ℕ). b ∷ a ∷ ops_of rest) here.1 second in
    let free = (independent_is parts y x (omega arith) known).1 (independent_of-symmetric parts y x ∙ independent) in
    normal [] [] (ops_of rest) x y ops (record { less = less; of_first = free; of_between = λ i d inside. absurd (omega arith) }))
