-- The lines of operations, cuts and nodes: what was written is read as what it was, and what is read is so written.
use Rattle.std.proofs.Common.{◌≡◌, ℕ, ◌+◌, ◌*◌, ◌^◌, ◌<◌, ◌≤◌, eqb, List, [], ◌∷◌, ◌++◌, length, map, Option, Some, None, Ok, Err, refl, sym, ap, subst, ◌∙◌, arith, inl, inr, append_assoc}
use Rattle.std.specs.Prelude.{codes, decimal, IfSome}
use Rattle.std.specs.List.{AllByRecursion}
use Rattle.std.proofs.lemmas.Bool.{eqb-true, eq-eqb, cases_Bool, cond-true, cond-false}
use Rattle.limits.specs.declared.TheConstants.{MOST_SLOTS, MOST_NODES, MOST_CUTS}
use Rattle.line_text.specs.Words.{words_of, line_of, text_of}
use Rattle.line_text.proofs.WordLaws.{line_of-words_of, words_of-line_of, literal}
use Rattle.plan_text.specs.declared.op_line.OpLine.{OpLine}
use Rattle.plan_text.specs.OpLine.{op_line_words, op_line_at, IsOpLine}
use Rattle.plan_text.specs.PlanText.{AreOpLines}
use Rattle.plan_text.proofs.OpLineLaws.{op_line_at-some, op_line_at-again, op_line_words-are_words}
use Rattle.slot_box.specs.declared.node.Node.{Node}
use Rattle.slot_box.specs.Ranges.{IsNodeInRange}
use Rattle.dossier_text.specs.declared.fault.DossierFault.TheVariants.{Line}
use Rattle.dossier_text.specs.declared.dossier.CutLine.{CutLine}
use Rattle.dossier_text.specs.Nodes.{cut_words, node_lines}
use Rattle.dossier_text.specs.Ranges.{IsCutLine}
use Rattle.dossier_text.specs.Text.{plan_lines, cut_lines}
use Rattle.dossier_text.specs.inside.NodeReading.{node_at}
use Rattle.dossier_text.specs.inside.HeadReading.{count_at, plan_count_at}
use Rattle.dossier_text.specs.Reading.{op_lines_at, plan_at, cuts_at, tree_at}
use Rattle.dossier_text.specs.inside.ListReading.{items_at, op_at, any_cut_at}
use Rattle.dossier_text.proofs.StepLaws.{same_Ok, no_fault, behind, behind_formed}
use Rattle.dossier_text.proofs.EachLineLaws.{lines_from, AllFrom, ReadsItems, items_at-ok, items_at-again}
use Rattle.dossier_text.proofs.HeadLaws.{whole_line, more_text, IsCount, count_at-ok, count_at-again}
use Rattle.dossier_text.proofs.ClaimLaws.{count_word, IsPlanCount, plan_count_at-ok, plan_count_at-again}
use Rattle.dossier_text.proofs.CutLaws.{cut_at-ok, cut_at-again, cut_words_are_words}
use Rattle.dossier_text.proofs.NodeLaws.{line_words, line_words_are_words, node_at-ok, node_at-again}

-- ---- operations

abbrev op_words : ℕ → OpLine → List (List ℕ)
op_words index line = op_line_words line

abbrev IsNumbered : ℕ → OpLine → Type 0
IsNumbered index line = (line.number ≡ index + 1) × IsOpLine line

op_at-ok : (line index : ℕ) (text : List ℕ) (op : OpLine) → op_at line index text ≡ Ok op → (text ≡ line_of (op_line_words op)) × IsNumbered index op
unfolding op_at
op_at-ok line index text op found =
    behind_formed line (op_line_at (words_of text)) _ op found
    (λ read is found.
    let words = op_line_at-some (words_of text) read is in
    elim (cases_Bool (eqb read.number (index + 1))) [
      | inl same ↦
          let e = same_Ok read op (sym (cond-true (eqb read.number (index + 1)) (Ok read) (Err (Line line)) same) ∙ found) in
          subst (λ (x : OpLine). (text ≡ line_of (op_line_words x)) × IsNumbered index x) e
          (sym (line_of-words_of text) ∙ ap line_of words.0, (eqb-true _ _ same, words.1))
      | inr other ↦ no_fault (Line line) op (sym (cond-false (eqb read.number (index + 1)) (Ok read) (Err (Line line)) other) ∙ found)
    ])

op_at-again : (line index : ℕ) (op : OpLine) → IsNumbered index op → op_at line index (line_of (op_line_words op)) ≡ Ok op
unfolding op_at
op_at-again line index op is =
    let each = op_line_words-are_words op is.1 in
    rw (words_of-line_of (codes "op") _ each, op_line_at-again op is.1, eq-eqb op.number (index + 1) is.0) refl

op_reads : ReadsItems op_words IsNumbered op_at
op_reads = record { said_is = op_at-ok; again = op_at-again; word = λ index op is. op_line_words-are_words op is.1 }

op_lines_from : (index : ℕ) (lines : List OpLine) → lines_from op_words IsNumbered index lines ≡ map op_line_words lines
op_lines_from index [] = refl
op_lines_from index (line ∷ lines) = ap (λ (ls : List (List (List ℕ))). op_line_words line ∷ ls) (op_lines_from (index + 1) lines)

are_numbered : (index : ℕ) (lines : List OpLine) → AllFrom op_words IsNumbered index lines → AreOpLines (index + 1) lines
are_numbered index [] all = tt
are_numbered index (line ∷ lines) all = (all.0.0, all.0.1, are_numbered (index + 1) lines all.1)

from_numbered : (index : ℕ) (lines : List OpLine) → AreOpLines (index + 1) lines → AllFrom op_words IsNumbered index lines
from_numbered index [] all = tt
from_numbered index (line ∷ lines) all = ((all.0, all.1), from_numbered (index + 1) lines all.2)

abbrev pub IsPlan : Option (List OpLine) → Type 0
IsPlan plan = IfSome plan (λ lines. (length lines ≤ MOST_SLOTS) × AreOpLines 1 lines)

-- the operations behind their number
op_lines_at-ok : (count : Option ℕ) (bytes : List ℕ) (read : Option (List OpLine) × List ℕ) → op_lines_at count bytes ≡ Ok read → IsPlanCount count →
    (whole_line (codes "plan" ∷ count_word count ∷ []) ++ bytes ≡ text_of (plan_lines read.0) ++ read.1) × IsPlan read.0
unfolding op_lines_at plan_lines
op_lines_at-ok None bytes read found few =
    subst (λ (r : Option (List OpLine) × List ℕ). (whole_line (codes "plan" ∷ codes "none" ∷ []) ++ bytes ≡ text_of (plan_lines r.0) ++ r.1) × IsPlan r.0)
    (same_Ok (None, bytes) read found) (refl, tt)
op_lines_at-ok (Some count) bytes read found few =
    behind (items_at op_at 9 count bytes) _ read found
    (λ lines is found.
    let all = items_at-ok op_words IsNumbered op_at op_reads 9 count bytes lines is in
    let text : bytes ≡ text_of (map op_line_words lines.0) ++ lines.1 = all.0
    ∙ ap (λ (ls : List (List (List ℕ))). text_of ls ++ lines.1) (op_lines_from 0 lines.0) in
    let whole : whole_line (codes "plan" ∷ decimal count ∷ []) ++ bytes ≡ text_of (plan_lines (Some lines.0)) ++ lines.1 =
    more_text (codes "plan" ∷ decimal count ∷ []) (map op_line_words lines.0) (whole_line (codes "plan" ∷ decimal count ∷ []) ++ bytes) bytes lines.1 refl text
    ∙ ap (λ (n : ℕ). text_of ((codes "plan" ∷ decimal n ∷ []) ∷ map op_line_words lines.0) ++ lines.1) (sym all.1) in
    subst (λ (r : Option (List OpLine) × List ℕ). (whole_line (codes "plan" ∷ decimal count ∷ []) ++ bytes ≡ text_of (plan_lines r.0) ++ r.1) × IsPlan r.0)
    (same_Ok (Some lines.0, lines.1) read found)
    (whole, (omega (arith, all.1, few), are_numbered 0 lines.0 all.2)))

pub plan_at-ok : (bytes : List ℕ) (read : Option (List OpLine) × List ℕ) → plan_at bytes ≡ Ok read → (bytes ≡ text_of (plan_lines read.0) ++ read.1) ×
    IsPlan read.0
unfolding plan_at
plan_at-ok bytes read found =
    behind (plan_count_at bytes) _ read found
    (λ count is found.
    let head = plan_count_at-ok bytes count is in
    let lines = op_lines_at-ok count.0 count.1 read found head.1 in
    (head.0 ∙ lines.0, lines.1))

pub plan_at-again : (plan : Option (List OpLine)) (rest : List ℕ) → IsPlan plan → plan_at (text_of (plan_lines plan) ++ rest) ≡ Ok (plan, rest)
unfolding plan_at op_lines_at plan_lines
plan_at-again None rest is = rw (plan_count_at-again None rest tt) refl
plan_at-again (Some lines) rest is =
    let regrouped : text_of (plan_lines (Some lines)) ++ rest ≡ whole_line (codes "plan" ∷ decimal (length lines) ∷ [])
    ++ (text_of (map op_line_words lines) ++ rest) = append_assoc (whole_line (codes "plan" ∷ decimal (length lines) ∷ []))
    (text_of (map op_line_words lines)) rest in
    let each : items_at op_at 9 (length lines) (text_of (map op_line_words lines) ++ rest) ≡ Ok (lines, rest) =
    ap (λ (ls : List (List (List ℕ))). items_at op_at 9 (length lines) (text_of ls ++ rest)) (sym (op_lines_from 0 lines))
    ∙ items_at-again op_words IsNumbered op_at op_reads 9 lines rest (from_numbered 0 lines is.1) in
    ap plan_at regrouped ∙ rw (plan_count_at-again (Some (length lines)) (text_of (map op_line_words lines) ++ rest) is.0, each) refl

-- ---- cuts

abbrev words_of_cut : ℕ → CutLine → List (List ℕ)
words_of_cut index cut = cut_words cut

abbrev IsCut : ℕ → CutLine → Type 0
IsCut index cut = IsCutLine cut

cut_reads : ReadsItems words_of_cut IsCut any_cut_at
cut_reads = record {
  said_is = λ line index. cut_at-ok line;
  again = λ line index. cut_at-again line;
  word = λ index. cut_words_are_words;
}

cut_lines_from : (index : ℕ) (cuts : List CutLine) → lines_from words_of_cut IsCut index cuts ≡ map cut_words cuts
cut_lines_from index [] = refl
cut_lines_from index (cut ∷ cuts) = ap (λ (ls : List (List (List ℕ))). cut_words cut ∷ ls) (cut_lines_from (index + 1) cuts)

all_cuts : (index : ℕ) (cuts : List CutLine) → AllFrom words_of_cut IsCut index cuts → AllByRecursion IsCutLine cuts
all_cuts index [] all = tt
all_cuts index (cut ∷ cuts) all = (all.0, all_cuts (index + 1) cuts all.1)

cuts_from : (index : ℕ) (cuts : List CutLine) → AllByRecursion IsCutLine cuts → AllFrom words_of_cut IsCut index cuts
cuts_from index [] all = tt
cuts_from index (cut ∷ cuts) all = (all.0, cuts_from (index + 1) cuts all.1)

abbrev pub AreCuts : List CutLine → Type 0
AreCuts cuts = (length cuts ≤ MOST_CUTS) × AllByRecursion IsCutLine cuts

pub cuts_at-ok : (line : ℕ) (bytes : List ℕ) (read : List CutLine × List ℕ) → cuts_at line bytes ≡ Ok read → (bytes ≡ text_of (cut_lines read.0) ++ read.1) ×
    AreCuts read.0
unfolding cuts_at cut_lines
cuts_at-ok line bytes read found =
    behind (count_at line (codes "cuts") MOST_CUTS bytes) _ read found
    (λ count is found.
    let head = count_at-ok line (codes "cuts") MOST_CUTS bytes count is in
    let all = items_at-ok words_of_cut IsCut any_cut_at cut_reads (line + 1) count.0 count.1 read found in
    let text : count.1 ≡ text_of (map cut_words read.0) ++ read.1 = all.0
    ∙ ap (λ (ls : List (List (List ℕ))). text_of ls ++ read.1) (cut_lines_from 0 read.0) in
    let whole : bytes ≡ text_of (cut_lines read.0) ++ read.1 =
    more_text (codes "cuts" ∷ decimal count.0 ∷ []) (map cut_words read.0) bytes count.1 read.1 head.0 text
    ∙ ap (λ (n : ℕ). text_of ((codes "cuts" ∷ decimal n ∷ []) ∷ map cut_words read.0) ++ read.1) (sym all.1) in
    (whole, (omega (arith, all.1, head.1.few), all_cuts 0 read.0 all.2)))

pub cuts_at-again : (line : ℕ) (cuts : List CutLine) (rest : List ℕ) → AreCuts cuts → cuts_at line (text_of (cut_lines cuts) ++ rest) ≡ Ok (cuts, rest)
unfolding cuts_at cut_lines
cuts_at-again line cuts rest is =
    let regrouped : text_of (cut_lines cuts) ++ rest ≡ whole_line (codes "cuts" ∷ decimal (length cuts) ∷ []) ++ (text_of (map cut_words cuts) ++ rest) =
    append_assoc (whole_line (codes "cuts" ∷ decimal (length cuts) ∷ [])) (text_of (map cut_words cuts)) rest in
    let each : items_at any_cut_at (line + 1) (length cuts) (text_of (map cut_words cuts) ++ rest) ≡ Ok (cuts, rest) =
    ap (λ (ls : List (List (List ℕ))). items_at any_cut_at (line + 1) (length cuts) (text_of ls ++ rest)) (sym (cut_lines_from 0 cuts))
    ∙ items_at-again words_of_cut IsCut any_cut_at cut_reads (line + 1) cuts rest (cuts_from 0 cuts is.1) in
    let count : IsCount MOST_CUTS (length cuts) = record { small = omega (arith, is.0); few = is.0 } in
    ap (cuts_at line) regrouped
    ∙ rw (count_at-again line (codes "cuts") MOST_CUTS (length cuts) (text_of (map cut_words cuts) ++ rest) (literal (codes "cuts") refl refl) count, each)
    refl

-- ---- nodes

abbrev IsNodeAt : ℕ → Node → Type 0
IsNodeAt id node = (id < 2 ^ 32) × IsNodeInRange node

node_reads : ReadsItems line_words IsNodeAt node_at
node_reads = record {
  said_is = λ line id text node found. let said = node_at-ok line id text node found in (said.0, (said.1, said.2));
  again = λ line id node is. node_at-again line id node is.0 is.1;
  word = λ id node is. line_words_are_words id node is.0 is.1;
}

node_lines_from : (id : ℕ) (tree : List Node) → lines_from line_words IsNodeAt id tree ≡ node_lines id tree
node_lines_from id [] = refl
node_lines_from id (node ∷ tree) = ap (λ (ls : List (List (List ℕ))). line_words id node ∷ ls) (node_lines_from (id + 1) tree)

all_nodes : (id : ℕ) (tree : List Node) → AllFrom line_words IsNodeAt id tree → AllByRecursion IsNodeInRange tree
all_nodes id [] all = tt
all_nodes id (node ∷ tree) all = (all.0.1, all_nodes (id + 1) tree all.1)

nodes_from : (id : ℕ) (tree : List Node) → AllByRecursion IsNodeInRange tree → id + length tree ≤ 2 ^ 32 → AllFrom line_words IsNodeAt id tree
nodes_from id [] all small = tt
nodes_from id (node ∷ tree) all small = ((omega (arith, small), all.0), nodes_from (id + 1) tree all.1 (omega (arith, small)))

pub record IsTree (inner : ℕ) (tree : List Node) : Type 0 where
  pub all : length tree ≡ 2 * inner + 1
  pub each : AllByRecursion IsNodeInRange tree

pub tree_at-ok : (first inner : ℕ) (bytes : List ℕ) (read : List Node × List ℕ) → tree_at first inner bytes ≡ Ok read →
    (bytes ≡ text_of (node_lines 0 read.0) ++ read.1) × IsTree inner read.0
unfolding tree_at
tree_at-ok first inner bytes read found =
    let all = items_at-ok line_words IsNodeAt node_at node_reads first (2 * inner + 1) bytes read found in
    (all.0 ∙ ap (λ (ls : List (List (List ℕ))). text_of ls ++ read.1) (node_lines_from 0 read.0), record { all = all.1; each = all_nodes 0 read.0 all.2 })

pub tree_at-again : (first inner : ℕ) (tree : List Node) (rest : List ℕ) → IsTree inner tree → inner ≤ MOST_NODES →
    tree_at first inner (text_of (node_lines 0 tree) ++ rest) ≡ Ok (tree, rest)
unfolding tree_at
tree_at-again first inner tree rest is few =
    ap (λ (n : ℕ). items_at node_at first n (text_of (node_lines 0 tree) ++ rest)) (sym is.all)
    ∙ ap (λ (ls : List (List (List ℕ))). items_at node_at first (length tree) (text_of ls ++ rest)) (sym (node_lines_from 0 tree))
    ∙ items_at-again line_words IsNodeAt node_at node_reads first tree rest (nodes_from 0 tree is.each (omega (arith, is.all, few)))
