-- Reading a dossier from its first line to its last, with the first fault that is met.
use Rattle.std.specs.Prelude.{ℕ, ◌+◌, ◌*◌, List, [], ◌∷◌, length, Option, Some, None, Result, Ok, Err, codes}
use Rattle.limits.specs.declared.TheConstants.{MOST_CUTS}
use Rattle.plan_text.specs.declared.op_line.OpLine.{OpLine}
use Rattle.slot_box.specs.declared.node.Node.{Node}
use Rattle.dossier_text.specs.declared.fault.DossierFault.{DossierFault}
use Rattle.dossier_text.specs.declared.fault.DossierFault.TheVariants.{Line}
use Rattle.dossier_text.specs.declared.dossier.CutLine.{CutLine}
use Rattle.dossier_text.specs.declared.dossier.Dossier.{Dossier}
use Rattle.dossier_text.specs.Faults.{◌>>=◌}
use Rattle.dossier_text.specs.inside.NodeReading.{node_at}
use Rattle.dossier_text.specs.inside.HeadReading.{fixed_at, format_at, count_at, sizes_at, claim_at, plan_count_at}
use Rattle.dossier_text.specs.inside.ListReading.{items_at, op_at, any_cut_at}
use Rattle.dossier_text.specs.declared.head_lines.Sizes.{Sizes}
use Rattle.dossier_text.specs.declared.head_lines.Claim.{Claim}

-- the lines of the operations, where there is a plan: the first is the ninth of the dossier
unfoldable pub op_lines_at : Option ℕ → List ℕ → Result (Option (List OpLine) × List ℕ) DossierFault
op_lines_at None bytes = Ok (None, bytes)
op_lines_at (Some count) bytes = do
  lines ← items_at op_at 9 count bytes
  Ok (Some lines.0, lines.1)

-- the plan, if there is one, and the lines after it
unfoldable pub plan_at : List ℕ → Result (Option (List OpLine) × List ℕ) DossierFault
plan_at bytes = do
  count ← plan_count_at bytes
  op_lines_at count.0 count.1

-- the number of cuts in this line, a line for each, and the lines after them
unfoldable pub cuts_at : ℕ → List ℕ → Result (List CutLine × List ℕ) DossierFault
cuts_at line bytes = do
  count ← count_at line (codes "cuts") MOST_CUTS bytes
  items_at any_cut_at (line + 1) count.0 count.1

-- a line for each node, inner nodes and one leaf more than these, and the lines after them
unfoldable pub tree_at : ℕ → ℕ → List ℕ → Result (List Node × List ℕ) DossierFault
tree_at first inner bytes = items_at node_at first (2 * inner + 1) bytes

-- nothing stands in this line
abbrev pub none_left : ℕ → List ℕ → Result (List ℕ) DossierFault
none_left line [] = Ok []
none_left line (byte ∷ bytes) = Err (Line line)

-- the last line, and nothing behind it
unfoldable pub ending_at : ℕ → List ℕ → Result (List ℕ) DossierFault
ending_at line bytes = do
  rest ← fixed_at line (codes "end") bytes
  none_left (line + 1) rest

-- how many lines a plan has
abbrev pub plan_length : Option (List OpLine) → ℕ
plan_length None = 0
plan_length (Some lines) = length lines

-- a dossier of what was read
abbrev pub put_together : Sizes → Claim → Option (List OpLine) → List CutLine → List Node → Dossier
put_together sizes claim plan cuts tree =
    record {
      slots = sizes.slots;
      nodes = sizes.nodes;
      answer = claim.answer;
      margin = claim.margin;
      bound = claim.bound;
      plan = plan;
      cuts = cuts;
      tree = tree;
    }

-- all of the bytes
unfoldable pub dossier_at : List ℕ → Result Dossier DossierFault
dossier_at bytes = do
  format ← format_at bytes
  sizes ← sizes_at format
  claim ← claim_at sizes.1
  plan ← plan_at claim.1
  cuts ← cuts_at (9 + plan_length plan.0) plan.1
  tree ← tree_at (10 + plan_length plan.0 + length cuts.0) sizes.0.nodes cuts.1
  ending ← ending_at (10 + plan_length plan.0 + length cuts.0 + length tree.0) tree.1
  Ok (put_together sizes.0 claim.0 plan.0 cuts.0 tree.0)
