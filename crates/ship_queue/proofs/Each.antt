-- After each 64 entries a position is recorded.
use Rattle.std.proofs.Common.{inl, inr, ℕ, ◌<◌, ◌+◌, List, [], ◌∷◌, ◌++◌, refl, sym, subst, arith}
use Rattle.chronicle_model.specs.Chronicle.{Position}
use Rattle.ship_queue.specs.Messages.{Message, Entry_of, Record_of}
use Rattle.ship_queue.specs.Sent.{RecordsEach}
use Rattle.ship_queue.specs.Shipping.{AreRecordedEach}

pub each_append : (n m k : ℕ) (ms ns : List Message) → RecordsEach n ms m → RecordsEach m ns k → RecordsEach n (ms ++ ns) k
each_append n m k [] ns same rest = subst (λ (j : ℕ). RecordsEach j ns k) (sym same) rest
each_append n m k (Entry_of x ∷ ms) ns first rest = each_append (n + 1) m k ms ns first rest
each_append n m k (Record_of q ∷ ms) ns (at, first) rest = (at, each_append 0 m k ms ns first rest)

-- so it was so far
pub each_so_far : (n m : ℕ) (ms : List Message) → RecordsEach n ms m → m < 64 → AreRecordedEach n ms
each_so_far n m [] same lt = omega (arith, same, lt)
each_so_far n m (Entry_of x ∷ ms) each lt = each_so_far (n + 1) m ms each lt
each_so_far n m (Record_of q ∷ ms) (at, each) lt = inl (at, each_so_far 0 m ms each lt)

-- and with one record more at the end
pub each_at_end : (n m : ℕ) (ms : List Message) (q : Position) → RecordsEach n ms m → m < 64 → AreRecordedEach n (ms ++ Record_of q ∷ [])
each_at_end n m [] q same lt = inr (omega (arith, same, lt), refl)
each_at_end n m (Entry_of x ∷ ms) q each lt = each_at_end (n + 1) m ms q each lt
each_at_end n m (Record_of r ∷ ms) q (at, each) lt = inl (at, each_at_end 0 m ms q each lt)
