use Rattle.std.proofs.Common.{◌≡◌, ℕ, ◌+◌, ◌-◌, ◌≤◌, List, [], ◌∷◌, ◌++◌, None, Some, replicate, ap, ◌∙◌, arith}
use Rattle.std.proofs.lemmas.List.{replicate-append-replicate}
use Rattle.search_core.specs.declared.worker.Worker.{Worker}
use Rattle.search_core.specs.Cores.{fresh_worker}
use Rattle.search_core.proofs.machine.fresh_workers.Goals as goal

-- one more at the end
one-more : (made : ℕ) (items workers : List Worker) (worker : Worker) → 1 ≤ made → workers ≡ items ++ worker ∷ [] → worker ≡ fresh_worker None
    → items ≡ fresh_worker (Some 0) ∷ replicate (made - 1) (fresh_worker None) → workers ≡ fresh_worker (Some 0) ∷ replicate (made + 1 - 1) (fresh_worker None)
one-more made items workers worker some pushed is before =
    let n : made - 1 + 1 ≡ made + 1 - 1 = omega arith in
    pushed ∙ ap (λ (u : Worker). items ++ u ∷ []) is ∙ ap (λ (l : List Worker). l ++ fresh_worker None ∷ []) before
    ∙ ap (λ (l : List Worker). fresh_worker (Some 0) ∷ l) (replicate-append-replicate (made - 1) 1 (fresh_worker None))
    ∙ ap (λ (k : ℕ). fresh_worker (Some 0) ∷ replicate k (fresh_worker None)) n

pub loop-made-preserved : goal.loop-made-preserved
loop-made-preserved c =
    one-more c.loop-made.made c.loop-made.workers.items _ c.new-in-loop-made.result c.loop-made.auto.made c.in_ok-push-2.ensures.items
    c.new-in-loop-made.ensures c.loop-made.invariant
