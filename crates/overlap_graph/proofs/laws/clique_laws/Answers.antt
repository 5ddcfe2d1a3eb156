use Rattle.overlap_graph.proofs.GraphLaws.{each_is_clique, each_pair_is_covered}
use Rattle.overlap_graph.proofs.laws.clique_laws.Goals as goal

pub returns-clause-cliques : goal.returns-clause-cliques
returns-clause-cliques c = each_is_clique c.args.plant.now

pub returns-clause-covered : goal.returns-clause-covered
returns-clause-covered c = each_pair_is_covered c.args.plant.now
