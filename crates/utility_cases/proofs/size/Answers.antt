use Prim.Native.Nat.{◌≤◌, ◌^◌}
use native.Mathlib.Omega.{arith}
use Rattle.std.proofs.Math.Pow.{pow_mono}
use Rattle.std.proofs.lemmas.Nat.{pow_pos}
use Rattle.utility_cases.proofs.size.Goals as goal

pub returns : goal.returns
returns c =
    let most : 2 ^ c.min.result ≤ 4096 = pow_mono {j = 12} (omega (arith, c.min.ensures)) in
    (omega (arith, most, pow_pos c.min.result), omega (arith, most))
