-- The promise leaves no room: two lengths and buffers that it allows for the same input are equal.
use Prim.Native.Nat.{ℕ}
use mathlib.Core.Path.{◌≡◌, sym, ◌∙◌}
use mathlib.Core.List.{List}
use Rattle.report.specs.Bench.{BenchPromise}

pub bench_determined : (s out : List ℕ) {n k : ℕ} {c d : List ℕ} → BenchPromise s out n c → BenchPromise s out k d
    → (n ≡ k) × (c ≡ d)
bench_determined s out e f = (e.0 ∙ sym f.0, e.1 ∙ sym f.1)
