-- Reading the lines of a list, one item in each.
use Rattle.std.specs.Prelude.{ℕ, zero, suc, ◌+◌, ◌==◌, List, [], ◌∷◌, Result, Ok, Err, if◌then◌else◌}
use Rattle.line_text.specs.Words.{words_of}
use Rattle.plan_text.specs.declared.op_line.OpLine.{OpLine}
use Rattle.plan_text.specs.OpLine.{op_line_at}
use Rattle.dossier_text.specs.declared.fault.DossierFault.{DossierFault}
use Rattle.dossier_text.specs.declared.fault.DossierFault.TheVariants.{Line}
use Rattle.dossier_text.specs.declared.dossier.CutLine.{CutLine}
use Rattle.dossier_text.specs.Faults.{◌>>=◌, formed, line_at}
use Rattle.dossier_text.specs.inside.CutReading.{cut_at}

-- so many lines, each read with its index, the first of which is given
abbrev pub each_line : {X : Type 0} → (ℕ → List ℕ → Result (X × List ℕ) DossierFault) → ℕ → ℕ → List ℕ →
    Result (List X × List ℕ) DossierFault
each_line read zero index bytes = Ok ([], bytes)
each_line read (suc count) index bytes = do
  first ← read index bytes
  others ← each_line read count (index + 1) first.1
  Ok (first.0 ∷ others.0, others.1)

-- the item of this index that the text of this line says, and what stands behind the line
unfoldable pub item_at : {X : Type 0} → (ℕ → ℕ → List ℕ → Result X DossierFault) → ℕ → ℕ → List ℕ →
    Result (X × List ℕ) DossierFault
item_at said line index bytes = do
  parts ← line_at line bytes
  item ← said line index parts.0
  Ok (item, parts.1)

-- so many items, the first in this line
abbrev pub items_at : {X : Type 0} → (ℕ → ℕ → List ℕ → Result X DossierFault) → ℕ → ℕ → List ℕ →
    Result (List X × List ℕ) DossierFault
items_at said first count bytes = each_line (λ index. item_at said (first + index) index) count 0 bytes

-- an operation, by its name and its numbers; they are numbered from 1
unfoldable pub op_at : ℕ → ℕ → List ℕ → Result OpLine DossierFault
op_at line index text = do
  op ← formed line (op_line_at (words_of text))
  if op.number == index + 1 then Ok op else Err (Line line)

-- a cut, which does not tell its index
abbrev pub any_cut_at : ℕ → ℕ → List ℕ → Result CutLine DossierFault
any_cut_at line index text = cut_at line text
