-- Laws of shares, which are rounded down.
use Rattle.std.proofs.Common.{◌≡◌, ℕ, ◌+◌, ◌*◌, ◌<◌, ◌≤◌, arith}
use Rattle.std.proofs.Math.Nat.{div-mul-le_self, lt-div-mul-add, mul-le-mul_left, mul-div_cancel_left, mul-le-mul_right}
use Rattle.std.proofs.lemmas.Nat.{le-div, div_below}
use Rattle.crude_amounts.specs.Draw.{share_of}

-- a share lies within one of the exact one
pub share_of-floor : (total volume reached : ℕ) → share_of total volume reached * total ≤ reached * volume
share_of-floor total volume reached = div-mul-le_self (reached * volume) total

pub share_of-next : (total volume reached : ℕ) → 0 < total → reached * volume < share_of total volume reached * total + total
share_of-next total volume reached some = lt-div-mul-add {a = reached * volume} {b = total} some

-- nothing has no share, and all have the volume
pub share_of-nothing : (total volume : ℕ) → 0 < total → share_of total volume 0 ≡ 0
share_of-nothing total volume some =
    let below : share_of total volume 0 < 1 = div_below (0 * volume) total 1 some (omega arith) in
    omega arith

pub share_of-all : (total volume : ℕ) → 0 < total → share_of total volume total ≡ volume
share_of-all total volume some = mul-div_cancel_left volume some

-- more crudes have no less
pub share_of-monotone : (total volume reached more : ℕ) → 0 < total → reached ≤ more → share_of total volume reached ≤ share_of total volume more
share_of-monotone total volume reached more some order =
    let floor = share_of-floor total volume reached in
    let up : reached * volume ≤ more * volume = mul-le-mul_right volume order in
    le-div (share_of total volume reached) (more * volume) total some (omega arith)

-- where the volume is at most the total, a crude has no more than there is of it
pub share_of-step : (total volume reached amount : ℕ) → 0 < total → volume ≤ total → share_of total volume (reached + amount)
    ≤ share_of total volume reached + amount
share_of-step total volume reached amount some within =
    let next = share_of-next total volume reached some in
    let up : amount * volume ≤ amount * total = mul-le-mul_left amount within in
    let below : share_of total volume (reached + amount) < share_of total volume reached + amount + 1 =
    div_below ((reached + amount) * volume) total (share_of total volume reached + amount + 1) some (omega arith) in
    omega arith
