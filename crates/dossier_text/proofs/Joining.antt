-- The text of a dossier, part by part.
use Rattle.std.proofs.Common.{◌≡◌, ◌++◌}
use Rattle.std.specs.Prelude.{codes}
use Rattle.std.proofs.lemmas.List.Concat.{flat_map-append}
use Rattle.line_text.specs.Words.{text_of}
use Rattle.dossier_text.specs.declared.dossier.Dossier.{Dossier}
use Rattle.dossier_text.specs.Nodes.{node_lines}
use Rattle.dossier_text.specs.Text.{format_lines, size_lines, claim_lines, plan_lines, cut_lines, dossier_lines, dossier_bytes}

pub dossier_bytes_in_parts : (d : Dossier) → dossier_bytes d ≡ text_of format_lines ++ text_of (size_lines d.slots d.nodes)
    ++ text_of (claim_lines d.answer d.margin d.bound) ++ text_of (plan_lines d.plan) ++ text_of (cut_lines d.cuts) ++ text_of (node_lines 0 d.tree)
    ++ codes "end\n"
unfolding dossier_lines
dossier_bytes_in_parts d = simp flat_map-append
