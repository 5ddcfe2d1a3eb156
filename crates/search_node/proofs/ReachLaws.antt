-- What a candidate reaches, and plain guesses.
use Rattle.std.proofs.Common.{◌≡◌, ℕ, ◌+◌, ◌^◌, ◌<◌, inl, inr, List, [], ◌∷◌, length, take, get_or, ℤ, ◌≤ℤ◌, Result, Ok, Err, IfOk, ap₂, sym, ◌∙◌, subst, arith}
use Rattle.std.proofs.lemmas.Int.{ints}
use Rattle.std.proofs.lemmas.List.Elements.{All-more, All-weaker}
use Rattle.std.proofs.lemmas.Nat.{pow_pos}
use Rattle.dual_bound.specs.Dual.{dual_value}
use Rattle.dual_bound.specs.Improving.{IsBelowSingles, single}
use Rattle.linear_form.specs.declared.row.RowTerm.{RowTerm}
use Rattle.linear_form.specs.Bounds.{Bounds}
use Rattle.plant_model.specs.declared.parts.Parts.{Parts}
use Rattle.slot_box.specs.declared.slot.Slot.{Slot}
use Rattle.slot_box.specs.declared.term.Term.TheVariants.{Row, Cut}
use Rattle.leaf_value.specs.LeafValue.{dual_value_of}
use Rattle.leaf_value.specs.Settings.{Setting, plain_setting}
use Rattle.search_node.specs.declared.block.RowBlock.{RowBlock}
use Rattle.search_node.specs.declared.guesses.Candidate.{Candidate}
use Rattle.search_node.specs.declared.table.RowTable.{RowTable}
use Rattle.search_node.specs.declared.weighing.Weighing.{Weighing}
use Rattle.search_node.specs.inside.Candidates.{IsNoWorse, Reaches}
use Rattle.search_node.specs.inside.Plain.{ReachesBlocks, ReachesPlainGuesses, ReachesPowers}
use Rattle.search_node.specs.inside.Weighings.{IsWhole, setting_of}
use Rattle.search_node.specs.Tables.{HaveName, IsBlockOf, IsTableOf}
use Rattle.search_node.proofs.EntryLaws.{as-many, one-value}

pub reaches-more : (candidate : Candidate) (value more : ℤ) → value ≤ℤ more → Reaches candidate value → Reaches candidate more
reaches-more candidate value more less (inl empty) = inl empty
reaches-more candidate value more less (inr below) = inr (omega (arith, ints, below, less))

pub worse-trans : (first second third : Candidate) → IsNoWorse first second → IsNoWorse second third → IsNoWorse first third
worse-trans first second third once again = record { reaches = λ value reached. again.reaches value (once.reaches value reached) }

-- what two facts of what was found come to
pub both-found : {X E : Type 0} (answer : Result X E) (P Q R : X → Type 0) → ((x : X) → P x → Q x → R x) → IfOk answer P → IfOk answer Q → IfOk answer R
both-found (Ok x) P Q R come first second = come x first second
both-found (Err e) P Q R come first second = tt

-- a value that is no greater than that of each row by each power, where the candidate reaches it
pub powers-reached : (weighing : Weighing) → IsWhole weighing → (block : RowBlock) → IsBlockOf weighing.plant.now (length weighing.bx.now) block →
    (candidate : Candidate) (value : ℤ) → IsBelowSingles block.rows weighing.ranges.now weighing.table.now.objective value → Reaches candidate value →
    ReachesPowers (setting_of weighing) weighing.bx.now block candidate
powers-reached weighing whole block is candidate value below reached name k there few =
    let n = length weighing.bx.now in
    let r = there.0 in
    let count = as-many weighing.plant.now n block is in
    let same = ap₂ (λ (ranges : Bounds) (objective : List RowTerm). dual_value block.rows ranges objective (single (length block.rows) r (2 ^ k)) 1)
    whole.ranges whole.table.objective
    ∙ one-value weighing.plant.now n block is weighing.bx.now name r (2 ^ k) (pow_pos k) there.1 there.2 in
    reaches-more candidate value (dual_value_of (setting_of weighing) weighing.bx.now 1 (Row name (2 ^ k) ∷ []))
    (subst (λ (z : ℤ). value ≤ℤ z) same (below r (omega (arith, there.1, count)) k (omega arith))) reached

-- one block more
pub blocks-more : (setting : Setting) (box : List Slot) (blocks : List RowBlock) (i : ℕ) (block : RowBlock) (old new : Candidate) → i < length blocks →
    block ≡ get_or blocks i block → IsNoWorse old new → ReachesBlocks setting box (take i blocks) old → ReachesPowers setting box block new →
    ReachesBlocks setting box (take (i + 1) blocks) new
blocks-more setting box blocks i block old new there here worse before step =
    let powers = λ (candidate : Candidate) (b : RowBlock). ReachesPowers setting box b candidate in
    All-more (powers new) blocks i block there
    (All-weaker (powers old) (powers new) (λ b reached name k inside few. worse.reaches _ (reached name k inside few)) (take i blocks) before)
    (subst (powers new) here step)

-- who reaches what no entries give, and what the rows of all blocks of the table give, reaches every plain guess
pub guesses-reached : (parts : Parts) (n : ℕ) (table : RowTable) → IsTableOf parts n table → (box : List Slot) (candidate : Candidate) →
    Reaches candidate (dual_value_of (plain_setting parts n) box 1 []) → ReachesBlocks (plain_setting parts n) box table.plain candidate →
    ReachesPlainGuesses (plain_setting parts n) box candidate
guesses-reached parts n table is box candidate none blocks [] plain = none
guesses-reached parts n table is box candidate none blocks (Row name y ∷ []) plain =
    let there : HaveName table.plain name = is.all_plain name plain.0 plain.1 in
    let block = there.1 in
    let powers : ReachesPowers (plain_setting parts n) box block candidate =
    subst (λ (b : RowBlock). ReachesPowers (plain_setting parts n) box b candidate) there.3 (blocks there.0 block there.2) in
    subst (λ (z : ℕ). Reaches candidate (dual_value_of (plain_setting parts n) box 1 (Row name z ∷ []))) (sym plain.2.2)
    (powers name plain.2.0 there.4 plain.2.1)
guesses-reached parts n table is box candidate none blocks (Cut cut slot op y ∷ []) plain = absurd plain
guesses-reached parts n table is box candidate none blocks (first ∷ second ∷ rest) plain = absurd plain
