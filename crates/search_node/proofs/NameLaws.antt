-- Rows are added name by name: the last number of a name first, then the one before it, and so on.
use Rattle.std.proofs.Common.{◌≡◌, ℕ, ◌+◌, ◌≤◌, inl, inr, List, sym, subst, arith}
use Rattle.std.specs.Prelude.{IsTrue}
use Rattle.std.proofs.lemmas.Bool.{cases_lt}
use Rattle.leaf_value.specs.Settings.{has_row, plain_setting}
use Rattle.plant_model.specs.declared.parts.Parts.{Parts}
use Rattle.slot_box.specs.declared.term.RowName.{RowName}
use Rattle.search_node.specs.declared.block.RowBlock.{RowBlock}
use Rattle.search_node.specs.declared.names.NameSpans.{NameSpans}
use Rattle.search_node.specs.declared.names.Numbers.{Numbers}
use Rattle.search_node.specs.inside.Spans.{AreBlocks, HaveIfRow, HaveSpans, IsAmong, IsOf, KeepNames}
use Rattle.search_node.specs.Tables.{HaveName}
use Rattle.search_node.proofs.BlockLaws.{names_kept}

-- ---- one of the four numbers of names

pub data Place : Type 0 where
  First : Place
  Second : Place
  Third : Place
  Last : Place

abbrev pub number_at : Place → RowName → ℕ
number_at First name = name.a
number_at Second name = name.b
number_at Third name = name.c
number_at Last name = name.d

abbrev pub numbers_at : Place → NameSpans → Numbers
numbers_at First spans = spans.a
numbers_at Second spans = spans.b
numbers_at Third spans = spans.c
numbers_at Last spans = spans.d

-- with these numbers there
abbrev pub with_numbers : Place → NameSpans → Numbers → NameSpans
with_numbers First spans numbers = record spans { a = numbers }
with_numbers Second spans numbers = record spans { b = numbers }
with_numbers Third spans numbers = record spans { c = numbers }
with_numbers Last spans numbers = record spans { d = numbers }

-- with those numbers there alone that are below this one
abbrev pub up_to : Place → NameSpans → ℕ → NameSpans
up_to place spans below = with_numbers place spans (record { from = (numbers_at place spans).from; below = below })

place_of : (place : Place) (spans : NameSpans) (numbers : Numbers) (name : RowName) → IsAmong (with_numbers place spans numbers) name →
    IsOf (number_at place name) numbers
    × ((others : Numbers) → IsOf (number_at place name) others → IsAmong (with_numbers place spans others) name)
place_of First spans numbers name is = (is.a, λ others of. record { family = is.family; a = of; b = is.b; c = is.c; d = is.d })
place_of Second spans numbers name is = (is.b, λ others of. record { family = is.family; a = is.a; b = of; c = is.c; d = is.d })
place_of Third spans numbers name is = (is.c, λ others of. record { family = is.family; a = is.a; b = is.b; c = of; d = is.d })
place_of Last spans numbers name is = (is.d, λ others of. record { family = is.family; a = is.a; b = is.b; c = is.c; d = of })

place_in : (place : Place) (spans : NameSpans) (name : RowName) → IsAmong spans name →
    IsOf (number_at place name) (numbers_at place spans)
    × ((others : Numbers) → IsOf (number_at place name) others → IsAmong (with_numbers place spans others) name)
place_in First spans name is = place_of First spans spans.a name is
place_in Second spans name is = place_of Second spans spans.b name is
place_in Third spans name is = place_of Third spans spans.c name is
place_in Last spans name is = place_of Last spans spans.d name is

-- ---- a loop over the numbers of one place

-- the rows were added to the old blocks, all of them if this is so
pub record AreAdded (parts : Parts) (n : ℕ) (All : Type 0) (spans : NameSpans) (old new : List RowBlock) : Type 0 where
  pub blocks : AreBlocks parts n new
  pub kept : KeepNames old new
  pub there : All → HaveSpans parts n spans new

module _ (parts : Parts) (n : ℕ) (All : Type 0) (place : Place) (spans : NameSpans) where
  pub added_none : (old : List RowBlock) → AreBlocks parts n old →
      AreAdded parts n All (up_to place spans (numbers_at place spans).from) old old
  added_none old blocks =
      let from = (numbers_at place spans).from in
      record {
        blocks = blocks;
        kept = λ name had. had;
        there = λ all name among has.
            let of = (place_of place spans (record { from = from; below = from }) name among).0 in
            absurd (omega (arith, of.0, of.1));
      }

  pub added_more : (i : ℕ) (one : Numbers) (old mid new : List RowBlock) → one.from ≡ i → one.below ≡ i + 1 →
      AreAdded parts n All (up_to place spans i) old mid → AreAdded parts n All (with_numbers place spans one) mid new →
      AreAdded parts n All (up_to place spans (i + 1)) old new
  added_more i one old mid new from below before step =
      let first = (numbers_at place spans).from in
      record {
        blocks = step.blocks;
        kept = names_kept old mid new before.kept step.kept;
        there = λ all name among has.
            let at = place_of place spans (record { from = first; below = i + 1 }) name among in
            elim (cases_lt (number_at place name) i) [
              | inl less ↦ step.kept name (before.there all name (at.1 (record { from = first; below = i }) (at.0.0, less)) has)
              | inr here ↦ step.there all name (at.1 one (omega (arith, from, here), omega (arith, at.0.1, below))) has
            ];
      }

  pub added_all : (i : ℕ) (old new : List RowBlock) → (numbers_at place spans).below ≤ i → AreAdded parts n All (up_to place spans i) old new →
      AreAdded parts n All spans old new
  added_all i old new past added =
      record {
        blocks = added.blocks;
        kept = added.kept;
        there = λ all name among has.
            let at = place_in place spans name among in
            added.there all name (at.1 (record { from = (numbers_at place spans).from; below = i }) (at.0.0, omega (arith, at.0.1, past))) has;
      }

-- the names whose last number is this one are one name, where each other number is one
pub one_name : (parts : Parts) (n : ℕ) (spans : NameSpans) (i : ℕ) (blocks : List RowBlock) →
    spans.a.below ≡ spans.a.from + 1 → spans.b.below ≡ spans.b.from + 1 → spans.c.below ≡ spans.c.from + 1 →
    HaveIfRow parts n blocks (record { family = spans.family; a = spans.a.from; b = spans.b.from; c = spans.c.from; d = i }) →
    HaveSpans parts n (with_numbers Last spans (record { from = i; below = i + 1 })) blocks
one_name parts n spans i blocks one_a one_b one_c have name among has =
    let the : RowName = record { family = spans.family; a = spans.a.from; b = spans.b.from; c = spans.c.from; d = i } in
    let a : name.a ≡ spans.a.from = omega (arith, among.a.0, among.a.1, one_a) in
    let b : name.b ≡ spans.b.from = omega (arith, among.b.0, among.b.1, one_b) in
    let c : name.c ≡ spans.c.from = omega (arith, among.c.0, among.c.1, one_c) in
    let d : name.d ≡ i = omega (arith, among.d.0, among.d.1) in
    let same : name ≡ the = (λ j. record { family = among.family j; a = a j; b = b j; c = c j; d = d j }) in
    subst (HaveName blocks) (sym same) (have (subst (λ (other : RowName). IsTrue (has_row (plain_setting parts n) other)) same has))
