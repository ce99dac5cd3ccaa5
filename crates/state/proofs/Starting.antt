-- The state before the first step is valid. Assumes nothing.
use Prim.Native.Nat.{ℕ, ◌≤◌, zero-le}
use mathlib.Core.Path.{◌≡◌, refl}
use mathlib.Core.List.{List, []}
use lib.ListN.{length, replicate}
use Rattle.tables.specs.Tables.{padded, Below}
use Rattle.tables.proofs.Closed.{all_replicate}
use Rattle.px86.specs.Machine.{from, start}
use Rattle.state.specs.Flat.{Rows}
use Rattle.state.specs.State.{queues_of, buffers_of, Starts}

-- empty rows hold nothing that could be too much
empty-rows : (k w m : ℕ) → length (replicate {A = List ℕ} k []) ≡ k → Rows k w m (replicate k [])
empty-rows k w m many =
    record {
      count = many;
      short = all_replicate (λ (r : List ℕ). length r ≤ w) k [] zero-le;
      allowed = all_replicate (Below m) k [] (λ j. zero-le);
    }

pub starts : Starts (record { queues = replicate 6 []; buffers = replicate 4 []; places = replicate 4 0; memory = replicate 6 0 })
unfolding queues_of buffers_of start from padded
starts =
    record {
      valid =
          record {
            queues = empty-rows 6 32 65535 refl;
            buffers = empty-rows 4 8 1548 refl;
            places = refl;
            in_places = all_replicate (λ (n : ℕ). n ≤ 8) 4 0 zero-le;
            memory = refl;
          };
      stands = refl;
    }
