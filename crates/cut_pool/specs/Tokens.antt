-- Tokens of a pool of cuts, each of which stands for one cut for good.
use Rattle.std.specs.Prelude.{ℕ}
use Rattle.boxcar.specs.Table.{Shows}
use Rattle.slot_box.specs.declared.cut.NamedCut.{NamedCut}
use Rattle.cut_pool.specs.declared.pool.CutPool.{CutPool}
use Rattle.cut_pool.specs.declared.pool.CutToken.{CutToken}

-- the token is of this pool
abbrev pub IsTokenOf : CutPool → CutToken → Type 0
IsTokenOf pool token = Shows pool.cuts token.pushed

-- the place in the pool for which it stands
abbrev pub index_of : CutToken → ℕ
index_of token = token.pushed.index

-- the cut that was pushed there
abbrev pub cut_of : CutToken → NamedCut
cut_of token = token.pushed.value
