-- `grow::seek`, its loop: of the entries that are left the first that holds the point is the first of all.
use Prim.Native.Nat.{◌-◌, ◌+◌, ◌*◌}
use mathlib.Core.Path.{◌≡◌}
use Rattle.words.specs.Words.{word}
use Rattle.steps.specs.Grow.{seek_in}
use Rattle.grow.proofs.seek.Given as goal

abbrev pub invariant-loop-i : goal.invariant-loop-i
invariant-loop-i l = let k = l.f.domains in
    seek_in k l.point (l.m - l.i) l.pool (32 * l.j + 4 + l.i * (2 * k + 1)) ≡ seek_in k l.point (word 32 l.pool l.j 1) l.pool (32 * l.j + 4)
