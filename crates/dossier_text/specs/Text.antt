-- The one text of a dossier.
use Rattle.std.specs.Prelude.{ℕ, List, [], ◌∷◌, ◌++◌, map, length, Option, Some, None, decimal, codes, ℤ}
use Rattle.line_text.specs.Words.{text_of}
use Rattle.plan_text.specs.declared.op_line.OpLine.{OpLine}
use Rattle.plan_text.specs.OpLine.{op_line_words}
use Rattle.dossier_text.specs.declared.dossier.Word3.{Word3}
use Rattle.dossier_text.specs.declared.dossier.Word3.TheVariants.{Plan, Infeasible, Open3}
use Rattle.dossier_text.specs.declared.dossier.CutLine.{CutLine}
use Rattle.dossier_text.specs.declared.dossier.Dossier.{Dossier}
use Rattle.dossier_text.specs.Entries.{signed_word}
use Rattle.dossier_text.specs.Nodes.{cut_words, node_lines}

-- the answer as one word
abbrev pub answer_word : Word3 → List ℕ
answer_word Plan = codes "plan"
answer_word Infeasible = codes "infeasible"
answer_word Open3 = codes "open"

-- the format, and the order in which the words of forms stand: that of slots
unfoldable pub format_lines : List (List (List ℕ))
format_lines = (codes "crude" ∷ codes "dossier" ∷ codes "1" ∷ []) ∷ (codes "order" ∷ codes "slots" ∷ []) ∷ []

-- the number of slots, and the number of inner nodes
unfoldable pub size_lines : ℕ → ℕ → List (List (List ℕ))
size_lines slots nodes = (codes "slots" ∷ decimal slots ∷ []) ∷ (codes "nodes" ∷ decimal nodes ∷ []) ∷ []

-- what is claimed of the plans of at most so many operations as there are slots: the answer, the plan's margin, and a
-- bound
unfoldable pub claim_lines : Word3 → Option ℤ → Option ℤ → List (List (List ℕ))
claim_lines answer margin bound =
    (codes "answer" ∷ answer_word answer ∷ [])
    ∷ (codes "margin" ∷ signed_word margin ∷ [])
    ∷ (codes "bound" ∷ signed_word bound ∷ [])
    ∷ []

-- the number of operations and a line for each, or that there is no plan
unfoldable pub plan_lines : Option (List OpLine) → List (List (List ℕ))
plan_lines None = (codes "plan" ∷ codes "none" ∷ []) ∷ []
plan_lines (Some lines) = (codes "plan" ∷ decimal (length lines) ∷ []) ∷ map op_line_words lines

-- the number of cuts and a line for each
unfoldable pub cut_lines : List CutLine → List (List (List ℕ))
cut_lines cuts = (codes "cuts" ∷ decimal (length cuts) ∷ []) ∷ map cut_words cuts

-- all lines; node ids count from 0
unfoldable pub dossier_lines : Dossier → List (List (List ℕ))
dossier_lines dossier =
    format_lines ++ size_lines dossier.slots dossier.nodes ++ claim_lines dossier.answer dossier.margin dossier.bound
    ++ plan_lines dossier.plan ++ cut_lines dossier.cuts ++ node_lines 0 dossier.tree
    ++ (codes "end" ∷ []) ∷ []

-- the text of a dossier
abbrev pub dossier_bytes : Dossier → List ℕ
dossier_bytes dossier = text_of (dossier_lines dossier)
