-- A node that was written is read as what it was, and what is read is so written.
use Rattle.std.proofs.Common.{◌≡◌, ℕ, ◌-◌, ◌^◌, ◌<◌, ◌≤◌, eqb, List, [], ◌∷◌, map, Ok, Err, refl, sym, ap, subst, ◌∙◌, arith, inl, inr}
use Rattle.std.specs.Prelude.{codes, decimal}
use Rattle.std.proofs.lemmas.Bool.{eqb-true, eq-eqb, cases_Bool, cond-true, cond-false}
use Rattle.limits.specs.declared.TheConstants.{MOST_ROWS}
use Rattle.line_text.specs.Words.{words_of, line_of}
use Rattle.line_text.proofs.WordLaws.{AreWords, line_of-words_of, words_of-line_of, literal}
use Rattle.line_text.proofs.ReadingLaws.{key_at-key, decimal_at-decimal, end_at-end, decimal_is_word}
use Rattle.slot_box.specs.declared.term.Term.{Term}
use Rattle.slot_box.specs.declared.split.Split.{Split}
use Rattle.slot_box.specs.declared.split.SplitKind.{SplitKind}
use Rattle.slot_box.specs.declared.split.SplitKind.TheVariants.{Ops, Volume, Start, End}
use Rattle.slot_box.specs.declared.node.Leaf.{Leaf}
use Rattle.slot_box.specs.declared.node.Leaf.TheVariants.{Dead, Void, Dual, Undone, Point}
use Rattle.slot_box.specs.declared.node.Node.{Node}
use Rattle.slot_box.specs.declared.node.Node.TheVariants as nodes
use Rattle.slot_box.specs.Ranges.{IsTerm, AreTerms, IsSplitKind, IsLeafInRange, IsNodeInRange}
use Rattle.dossier_text.specs.declared.fault.DossierFault.TheVariants.{Line}
use Rattle.dossier_text.specs.Faults.{◌>>=◌}
use Rattle.dossier_text.specs.Entries.{term_word}
use Rattle.dossier_text.specs.Nodes.{kind_words, leaf_words, node_words}
use Rattle.dossier_text.specs.inside.TermReading.{term_of, terms_at}
use Rattle.dossier_text.specs.inside.WordReading.{number_at}
use Rattle.dossier_text.specs.inside.NodeReading.{kind_at, inner_at, dead_at, void_at, dual_at, open_at, point_at, leaf_at, node_words_at, node_at}
use Rattle.dossier_text.proofs.StepLaws.{same_Ok, no_fault, behind, by_word, behind_key, behind_decimal, behind_end, number_at-ok, number_at-again}
use Rattle.dossier_text.proofs.TermLaws.{term_of-some, term_of-again, term_word_is_word}
use Rattle.dossier_text.proofs.EachLaws.{ReadsWords, few_words-ok, few_words-again, each_is_word}

abbrev Words : Type 0
Words = List (List ℕ)

-- ---- entries

term_words : ReadsWords term_of term_word IsTerm
term_words = record { read_is = term_of-some; again = term_of-again; word = term_word_is_word }

terms_at-ok : (line : ℕ) (words : Words) (terms : List Term) → terms_at line words ≡ Ok terms → (words ≡ map term_word terms) × AreTerms terms
terms_at-ok line words terms found =
    let read = few_words-ok term_of term_word IsTerm term_words line MOST_ROWS words terms found in
    (read.0.0, (read.1, read.0.1))

terms_at-again : (line : ℕ) (terms : List Term) → AreTerms terms → terms_at line (map term_word terms) ≡ Ok terms
terms_at-again line terms are = few_words-again term_of term_word IsTerm term_words line MOST_ROWS terms are.1 are.0

terms_are_words : (terms : List Term) → AreTerms terms → AreWords (map term_word terms)
terms_are_words terms are = each_is_word term_of term_word IsTerm term_words terms are.1

-- ---- what a box is divided by

-- a number behind the word of its kind
kind_number : (line limit : ℕ) (words : Words) (key : List ℕ) (make : ℕ → SplitKind) (kind : SplitKind) → limit < 2 ^ 64 →
    ((n : ℕ) → n ≤ limit → (key ∷ decimal n ∷ [] ≡ kind_words (make n)) × IsSplitKind (make n))
    → (word : List ℕ) → word ≡ key → (number_at line limit words >>= λ number. Ok (make number)) ≡ Ok kind → (word ∷ words ≡ kind_words kind) × IsSplitKind kind
kind_number line limit words key make kind small law word same found =
    behind (number_at line limit words) (λ number. Ok (make number)) kind found
    (λ n is found.
    let read = number_at-ok line limit words n is small in
    let made = law n read.1 in
    subst (λ (k : SplitKind). (word ∷ words ≡ kind_words k) × IsSplitKind k) (same_Ok (make n) kind found)
    (ap (λ (w : List ℕ). w ∷ words) same ∙ ap (λ (ws : Words). key ∷ ws) read.0 ∙ made.0, made.1))

kind_at-ok : (line : ℕ) (words : Words) (kind : SplitKind) → kind_at line words ≡ Ok kind → (words ≡ kind_words kind) × IsSplitKind kind
unfolding kind_at
kind_at-ok line [] kind found = no_fault (Line line) kind found
kind_at-ok line (word ∷ words) kind found =
    by_word word (codes "ops") _ _ kind found
    (λ same found. kind_number line (2 ^ 64 - 1) words (codes "ops") (λ n. Ops n) kind (omega arith) (λ n within. (refl, omega arith)) word same found)
    (λ found.
    by_word word (codes "volume") _ _ kind found
    (λ same found. kind_number line (2 ^ 32 - 1) words (codes "volume") (λ n. Volume n) kind (omega arith) (λ n within. (refl, omega arith)) word same found)
    (λ found.
    by_word word (codes "start") _ _ kind found
    (λ same found. kind_number line (2 ^ 32 - 1) words (codes "start") (λ n. Start n) kind (omega arith) (λ n within. (refl, omega arith)) word same found)
    (λ found.
    by_word word (codes "end") _ _ kind found
    (λ same found. kind_number line (2 ^ 32 - 1) words (codes "end") (λ n. End n) kind (omega arith) (λ n within. (refl, omega arith)) word same found)
    (λ found. no_fault (Line line) kind found))))

kind_at-again : (line : ℕ) (kind : SplitKind) → IsSplitKind kind → kind_at line (kind_words kind) ≡ Ok kind
unfolding kind_at
kind_at-again line (Ops set) fits = rw (number_at-again line (2 ^ 64 - 1) set (omega (arith, fits)) (omega arith)) refl
kind_at-again line (Volume number) fits = rw (number_at-again line (2 ^ 32 - 1) number (omega (arith, fits)) (omega arith)) refl
kind_at-again line (Start number) fits = rw (number_at-again line (2 ^ 32 - 1) number (omega (arith, fits)) (omega arith)) refl
kind_at-again line (End number) fits = rw (number_at-again line (2 ^ 32 - 1) number (omega (arith, fits)) (omega arith)) refl

kind_words_are_words : (kind : SplitKind) → IsSplitKind kind → AreWords (kind_words kind)
kind_words_are_words (Ops set) fits = (record { unspaced = refl; unbroken = refl }, (decimal_is_word set (omega (arith, fits)), tt))
kind_words_are_words (Volume number) fits = (record { unspaced = refl; unbroken = refl }, (decimal_is_word number (omega (arith, fits)), tt))
kind_words_are_words (Start number) fits = (record { unspaced = refl; unbroken = refl }, (decimal_is_word number (omega (arith, fits)), tt))
kind_words_are_words (End number) fits = (record { unspaced = refl; unbroken = refl }, (decimal_is_word number (omega (arith, fits)), tt))

-- ---- leaves

-- the words of a leaf, the first of which is given
abbrev IsLeafOf : List ℕ → Words → Leaf → Type 0
IsLeafOf word words leaf = (word ∷ words ≡ leaf_words leaf) × IsLeafInRange leaf

dead_at-ok : (line : ℕ) (words : Words) (leaf : Leaf) → dead_at line words ≡ Ok leaf → IsLeafOf (codes "dead") words leaf
unfolding dead_at
dead_at-ok line words leaf found =
    behind (number_at line (2 ^ 32 - 1) words) _ leaf found
    (λ at is found.
    let read = number_at-ok line (2 ^ 32 - 1) words at is (omega arith) in
    subst (λ (l : Leaf). IsLeafOf (codes "dead") words l) (same_Ok (Dead at) leaf found) (ap (λ (ws : Words). codes "dead" ∷ ws) read.0, omega (arith, read.1)))

void_at-ok : (line : ℕ) (words : Words) (leaf : Leaf) → void_at line words ≡ Ok leaf → IsLeafOf (codes "void") words leaf
unfolding void_at
void_at-ok line words leaf found =
    behind (terms_at line words) _ leaf found
    (λ terms is found.
    let read = terms_at-ok line words terms is in
    subst (λ (l : Leaf). IsLeafOf (codes "void") words l) (same_Ok (Void terms) leaf found) (ap (λ (ws : Words). codes "void" ∷ ws) read.0, read.1))

dual_at-ok : (line : ℕ) (words : Words) (leaf : Leaf) → dual_at line words ≡ Ok leaf → IsLeafOf (codes "dual") words leaf
unfolding dual_at
dual_at-ok line words leaf found =
    behind_decimal line (2 ^ 64 - 1) words _ leaf found (omega arith)
    (λ q w1 e1 l1 found.
    behind (terms_at line w1) _ leaf found
    (λ terms is found.
    let read = terms_at-ok line w1 terms is in
    subst (λ (l : Leaf). IsLeafOf (codes "dual") words l) (same_Ok (Dual q terms) leaf found)
    (ap (λ (ws : Words). codes "dual" ∷ ws) (e1 ∙ ap (λ (ws : Words). decimal q ∷ ws) read.0), (omega arith, read.1))))

open_at-ok : (line : ℕ) (words : Words) (leaf : Leaf) → open_at line words ≡ Ok leaf → IsLeafOf (codes "open") words leaf
unfolding open_at
open_at-ok line words leaf found =
    behind_decimal line (2 ^ 64 - 1) words _ leaf found (omega arith)
    (λ q w1 e1 l1 found.
    behind (terms_at line w1) _ leaf found
    (λ terms is found.
    let read = terms_at-ok line w1 terms is in
    subst (λ (l : Leaf). IsLeafOf (codes "open") words l) (same_Ok (Undone q terms) leaf found)
    (ap (λ (ws : Words). codes "open" ∷ ws) (e1 ∙ ap (λ (ws : Words). decimal q ∷ ws) read.0), (omega arith, read.1))))

point_at-ok : (line : ℕ) (words : Words) (leaf : Leaf) → point_at line words ≡ Ok leaf → IsLeafOf (codes "point") words leaf
unfolding point_at
point_at-ok line words leaf found =
    behind_end line words _ leaf found
    (λ rest none found. subst (λ (l : Leaf). IsLeafOf (codes "point") words l) (same_Ok Point leaf found) (ap (λ (ws : Words). codes "point" ∷ ws) none, tt))

-- a leaf behind a word that is this one
named : (word key : List ℕ) (words : Words) (leaf : Leaf) → word ≡ key → IsLeafOf key words leaf → IsLeafOf word words leaf
named word key words leaf same is = (ap (λ (w : List ℕ). w ∷ words) same ∙ is.0, is.1)

leaf_at-ok : (line : ℕ) (word : List ℕ) (words : Words) (leaf : Leaf) → leaf_at line word words ≡ Ok leaf → IsLeafOf word words leaf
unfolding leaf_at
leaf_at-ok line word words leaf found =
    by_word word (codes "dead") _ _ leaf found
    (λ same found. named word (codes "dead") words leaf same (dead_at-ok line words leaf found))
    (λ found.
    by_word word (codes "void") _ _ leaf found
    (λ same found. named word (codes "void") words leaf same (void_at-ok line words leaf found))
    (λ found.
    by_word word (codes "dual") _ _ leaf found
    (λ same found. named word (codes "dual") words leaf same (dual_at-ok line words leaf found))
    (λ found.
    by_word word (codes "open") _ _ leaf found
    (λ same found. named word (codes "open") words leaf same (open_at-ok line words leaf found))
    (λ found.
    by_word word (codes "point") _ _ leaf found
    (λ same found. named word (codes "point") words leaf same (point_at-ok line words leaf found))
    (λ found. no_fault (Line line) leaf found)))))

-- ---- nodes

inner_at-ok : (line : ℕ) (words : Words) (node : Node) → inner_at line words ≡ Ok node → (codes "split" ∷ words ≡ node_words node) × IsNodeInRange node
unfolding inner_at
inner_at-ok line words node found =
    behind_decimal line (2 ^ 32 - 1) words _ node found (omega arith)
    (λ ticket w1 e1 l1 found.
    behind_decimal line (2 ^ 32 - 1) w1 _ node found (omega arith)
    (λ slot w2 e2 l2 found.
    behind (kind_at line w2) _ node found
    (λ kind is found.
    let read = kind_at-ok line w2 kind is in
    let split : Split = record { slot = slot; kind = kind } in
    let whole : codes "split" ∷ words ≡ node_words (nodes.Inner ticket split) = rw (e1, e2, read.0) refl in
    let fits : IsNodeInRange (nodes.Inner ticket split) = (omega arith, omega arith, read.1) in
    subst (λ (n : Node). (codes "split" ∷ words ≡ node_words n) × IsNodeInRange n) (same_Ok (nodes.Inner ticket split) node found) (whole, fits))))

node_words_at-ok : (line : ℕ) (words : Words) (node : Node) → node_words_at line words ≡ Ok node → (words ≡ node_words node) × IsNodeInRange node
unfolding node_words_at
node_words_at-ok line [] node found = no_fault (Line line) node found
node_words_at-ok line (word ∷ words) node found =
    by_word word (codes "split") _ _ node found
    (λ same found.
    let read = inner_at-ok line words node found in
    (ap (λ (w : List ℕ). w ∷ words) same ∙ read.0, read.1))
    (λ found.
    behind (leaf_at line word words) _ node found
    (λ leaf is found. subst (λ (n : Node). (word ∷ words ≡ node_words n) × IsNodeInRange n) (same_Ok (nodes.Leaf leaf) node found)
    (leaf_at-ok line word words leaf is)))

-- the words of a node's line
abbrev pub line_words : ℕ → Node → List (List ℕ)
line_words id node = codes "node" ∷ decimal id ∷ node_words node

pub node_at-ok : (line id : ℕ) (text : List ℕ) (node : Node) → node_at line id text ≡ Ok node → (text ≡ line_of (line_words id node)) × (id < 2 ^ 32) ×
    IsNodeInRange node
unfolding node_at
node_at-ok line id text node found =
    behind_key line (codes "node") (words_of text) _ node found
    (λ w1 e1 found.
    behind_decimal line (2 ^ 32 - 1) w1 _ node found (omega arith)
    (λ number w2 e2 l2 found.
    elim (cases_Bool (eqb number id)) [
      | inl same ↦
          let read = node_words_at-ok line w2 node (sym (cond-true (eqb number id) (node_words_at line w2) (Err (Line line)) same) ∙ found) in
          let words : words_of text ≡ line_words id node = e1 ∙ rw (e2, read.0, eqb-true number id same) refl in
          let same_number = eqb-true number id same in
          (sym (line_of-words_of text) ∙ ap line_of words, omega (arith, same_number, l2), read.1)
      | inr other ↦ no_fault (Line line) node (sym (cond-false (eqb number id) (node_words_at line w2) (Err (Line line)) other) ∙ found)
    ]))

-- ---- and again

leaf_again : (line : ℕ) (leaf : Leaf) → IsLeafInRange leaf → node_words_at line (leaf_words leaf) ≡ Ok (nodes.Leaf leaf)
unfolding node_words_at leaf_at dead_at void_at dual_at open_at point_at
leaf_again line (Dead at) fits = rw (number_at-again line (2 ^ 32 - 1) at (omega (arith, fits)) (omega arith)) refl
leaf_again line (Void terms) fits = rw (terms_at-again line terms fits) refl
leaf_again line (Dual q terms) fits = rw (
  decimal_at-decimal (2 ^ 64 - 1) q (map term_word terms) (omega (arith, fits.0)) (omega arith),
  terms_at-again line
      terms fits.1,
) refl
leaf_again line (Undone q terms) fits = rw (
  decimal_at-decimal (2 ^ 64 - 1) q (map term_word terms) (omega (arith, fits.0)) (omega arith),
  terms_at-again line
      terms fits.1,
) refl
leaf_again line Point fits = rw end_at-end refl

node_words_again : (line : ℕ) (node : Node) → IsNodeInRange node → node_words_at line (node_words node) ≡ Ok node
unfolding node_words_at inner_at
node_words_again line (nodes.Inner ticket split) fits =
    rw (
      decimal_at-decimal (2 ^ 32 - 1) ticket _ (omega (arith, fits.0)) (omega arith),
      decimal_at-decimal (2 ^ 32 - 1) split.slot _ (omega (arith, fits.1)) (omega arith),
      kind_at-again line split.kind fits.2,
    )
    refl
node_words_again line (nodes.Leaf leaf) fits = leaf_again line leaf fits

leaf_words_are_words : (leaf : Leaf) → IsLeafInRange leaf → AreWords (leaf_words leaf)
leaf_words_are_words (Dead at) fits = (literal (codes "dead") refl refl, (decimal_is_word at (omega (arith, fits)), tt))
leaf_words_are_words (Void terms) fits = (literal (codes "void") refl refl, terms_are_words terms fits)
leaf_words_are_words (Dual q terms) fits = (literal (codes "dual") refl refl, (decimal_is_word q (omega (arith, fits.0)), terms_are_words terms fits.1))
leaf_words_are_words (Undone q terms) fits = (literal (codes "open") refl refl, (decimal_is_word q (omega (arith, fits.0)), terms_are_words terms fits.1))
leaf_words_are_words Point fits = (literal (codes "point") refl refl, tt)

node_words_are_words : (node : Node) → IsNodeInRange node → AreWords (node_words node)
node_words_are_words (nodes.Inner ticket split) fits = (
  literal (codes "split") refl refl,
  (decimal_is_word ticket (omega (arith, fits.0)), (decimal_is_word split.slot (omega (arith, fits.1)), kind_words_are_words split.kind fits.2)),
)
node_words_are_words (nodes.Leaf leaf) fits = leaf_words_are_words leaf fits

pub line_words_are_words : (id : ℕ) (node : Node) → id < 2 ^ 32 → IsNodeInRange node → AreWords (line_words id node)
line_words_are_words id node small fits = (literal (codes "node") refl refl, (decimal_is_word id (omega arith), node_words_are_words node fits))

pub node_at-again : (line id : ℕ) (node : Node) → id < 2 ^ 32 → IsNodeInRange node → node_at line id (line_of (line_words id node)) ≡ Ok node
unfolding node_at
node_at-again line id node small fits =
    rw (
      words_of-line_of (codes "node") _ (line_words_are_words id node small fits),
      key_at-key,
      decimal_at-decimal (2 ^ 32 - 1) id _ (omega arith)
          (omega arith),
      eq-eqb id id refl,
    )
    (node_words_again line node fits)
