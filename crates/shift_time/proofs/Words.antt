-- The three numbers are what document 02 says of them in words, and the words fit no others. Assumes nothing.
use Prim.Native.Nat.{ℕ, ◌-◌, ◌/◌, ◌%◌, ◌≤◌}
use mathlib.Core.Path.{◌≡◌}
use native.Mathlib.Omega.{arith}
use Rattle.shift_time.specs.declared.Time.{Time}
use Rattle.shift_time.specs.Time.{minute, time_of, TellsTime}

-- of every cost within its bound
pub time_tells : (cost bound : ℕ) → cost ≤ bound → TellsTime cost bound (time_of cost bound)
time_tells cost bound le = record { units = omega arith; spent = omega arith; whole = omega arith }

pub time_alone : (cost bound : ℕ) (t : Time) → TellsTime cost bound t → t ≡ time_of cost bound
time_alone cost bound t w =
    let m : t.minutes ≡ cost / minute = omega (arith, w) in
    let o : t.units ≡ cost % minute = omega (arith, w) in
    let u : t.unused ≡ bound - cost = omega (arith, w) in
    rw (← m, ← o, ← u)
