-- Reading the line of a node.
use Rattle.std.specs.Prelude.{ℕ, ◌-◌, ◌^◌, ◌==◌, List, [], ◌∷◌, Result, Ok, Err, if◌then◌else◌, codes}
use Rattle.std.specs.Str.{bytes_eq}
use Rattle.line_text.specs.Words.{words_of}
use Rattle.line_text.specs.Reading.{key_at, decimal_at, end_at}
use Rattle.slot_box.specs.declared.split.SplitKind.{SplitKind}
use Rattle.slot_box.specs.declared.split.SplitKind.TheVariants.{Ops, Volume, Start, End}
use Rattle.slot_box.specs.declared.node.Leaf.{Leaf}
use Rattle.slot_box.specs.declared.node.Leaf.TheVariants.{Dead, Void, Dual, Undone, Point}
use Rattle.slot_box.specs.declared.node.Node.{Node}
use Rattle.slot_box.specs.declared.node.Node.TheVariants as nodes
use Rattle.dossier_text.specs.declared.fault.DossierFault.{DossierFault}
use Rattle.dossier_text.specs.declared.fault.DossierFault.TheVariants.{Line}
use Rattle.dossier_text.specs.Faults.{◌>>=◌, formed}
use Rattle.dossier_text.specs.inside.WordReading.{number_at}
use Rattle.dossier_text.specs.inside.TermReading.{terms_at}

-- what a box is divided by
unfoldable pub kind_at : ℕ → List (List ℕ) → Result SplitKind DossierFault
kind_at line [] = Err (Line line)
kind_at line (word ∷ words) =
    if bytes_eq word (codes "ops") then (number_at line (2 ^ 64 - 1) words >>= λ set. Ok (Ops set))
    else if bytes_eq word (codes "volume") then (number_at line (2 ^ 32 - 1) words >>= λ number. Ok (Volume number))
    else if bytes_eq word (codes "start") then (number_at line (2 ^ 32 - 1) words >>= λ number. Ok (Start number))
    else if bytes_eq word (codes "end") then (number_at line (2 ^ 32 - 1) words >>= λ number. Ok (End number))
    else Err (Line line)

-- an inner node, behind the word `split`: its ticket, its slot, and the kind of its split
unfoldable pub inner_at : ℕ → List (List ℕ) → Result Node DossierFault
inner_at line words = do
  ticket ← formed line (decimal_at (2 ^ 32 - 1) words)
  slot ← formed line (decimal_at (2 ^ 32 - 1) ticket.1)
  kind ← kind_at line slot.1
  Ok (nodes.Inner ticket.0 (record { slot = slot.0; kind = kind }))

-- the leaves, each behind its word
unfoldable pub dead_at : ℕ → List (List ℕ) → Result Leaf DossierFault
dead_at line words = do
  at ← number_at line (2 ^ 32 - 1) words
  Ok (Dead at)

-- a leaf of no point, by the multipliers that show it
unfoldable pub void_at : ℕ → List (List ℕ) → Result Leaf DossierFault
void_at line words = do
  terms ← terms_at line words
  Ok (Void terms)

-- a leaf that is worth a dual value
unfoldable pub dual_at : ℕ → List (List ℕ) → Result Leaf DossierFault
dual_at line words = do
  q ← formed line (decimal_at (2 ^ 64 - 1) words)
  terms ← terms_at line q.1
  Ok (Dual q.0 terms)

-- a leaf that was left open, with its dual value
unfoldable pub open_at : ℕ → List (List ℕ) → Result Leaf DossierFault
open_at line words = do
  q ← formed line (decimal_at (2 ^ 64 - 1) words)
  terms ← terms_at line q.1
  Ok (Undone q.0 terms)

-- a leaf of one point
unfoldable pub point_at : ℕ → List (List ℕ) → Result Leaf DossierFault
point_at line words = do
  none ← formed line (end_at words)
  Ok Point

-- the leaf that the word names
unfoldable pub leaf_at : ℕ → List ℕ → List (List ℕ) → Result Leaf DossierFault
leaf_at line word words =
    if bytes_eq word (codes "dead") then dead_at line words
    else if bytes_eq word (codes "void") then void_at line words
    else if bytes_eq word (codes "dual") then dual_at line words
    else if bytes_eq word (codes "open") then open_at line words
    else if bytes_eq word (codes "point") then point_at line words
    else Err (Line line)

-- the node that the words behind its id name
unfoldable pub node_words_at : ℕ → List (List ℕ) → Result Node DossierFault
node_words_at line [] = Err (Line line)
node_words_at line (word ∷ words) =
    if bytes_eq word (codes "split") then inner_at line words
    else (leaf_at line word words >>= λ leaf. Ok (nodes.Leaf leaf))

-- the word `node`, this id, and the node
unfoldable pub node_at : ℕ → ℕ → List ℕ → Result Node DossierFault
node_at line id text = do
  behind_key ← formed line (key_at (codes "node") (words_of text))
  number ← formed line (decimal_at (2 ^ 32 - 1) behind_key)
  if number.0 == id then node_words_at line number.1 else Err (Line line)
