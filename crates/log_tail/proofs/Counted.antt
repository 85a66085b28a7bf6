-- The file that counts for a number is the log of that number.
use Rattle.std.proofs.Common.{◌≡◌, ◌≢◌, ◌⊎◌, inl, inr, ◌↔◌, ℕ, ◌≤◌, ◌+◌, ◌-◌, ◌^◌, ◌||◌, ◌&&◌, Bool, true, false, IsTrue, List, [], length, cond, Option, Some, is_some, Result, Ok, Err, IfOk, IfErr, OnOk, refl, sym, ap, ◌∙◌, subst, arith}
use Rattle.std.specs.Prelude.{nat_lt}
use Rattle.std.proofs.Math.Bool.{or-true, true-or}
use Rattle.std.proofs.lemmas.Bool.{cases_Bool, or_cases, and_parts, ltb-true, lt-ltb}
use Rattle.log_model.specs.declared.name.Name.{Name}
use Rattle.log_model.specs.Entry.{Entry}
use Rattle.log_model.specs.LogText.{IsLogText, IsDamaged, FileKey}
use Rattle.log_model.specs.Files.{Files, content, Reads, key_of}
use Rattle.log_model.proofs.TextLaws.{one_damage}
use Rattle.chronicle_model.specs.Chronicle.{log_name, old_name, bytes_of, HasLog, Position}
use Rattle.chronicle_model.proofs.Grown.{one_log, not_there}
use Rattle.log_tail.specs.declared.refusal.TailRefusal.{TailRefusal}
use Rattle.log_tail.specs.declared.refusal.TailRefusal.TheVariants as refusals
use Rattle.log_tail.specs.Reads.{HasHigher, HasNoLog, IsCounted, IsOver, IsRead, IsDamagedAt, IsNoPosition, IsOrEarlier}
use Rattle.log_tail.specs.Failures.{IsReadingRefusal}
use Rattle.log_tail.specs.Given.{IsGiven, IsTooFar, is_over, next_position}
use Rattle.log_tail.proofs.Found.{some_or, none_or}

some_same : (a b : List ℕ) → Some a ≡ Some b → a ≡ b
some_same a b is = cc

-- ---- one file counts

-- its bytes are those of the log
pub counted_bytes : (files : Files) (n : ℕ) (name : Name) (bytes : List ℕ) → IsCounted files n name → Reads files name bytes → bytes_of files n ≡ Some bytes
counted_bytes files n name bytes (inl is) reads = some_or (content files (log_name n)) (content files (old_name n)) bytes (subst (λ (m : Name). Reads files m bytes) is reads)
counted_bytes files n name bytes (inr old) reads = none_or (content files (log_name n)) (content files (old_name n)) old.0 ∙ subst (λ (m : Name). Reads files m bytes) old.1 reads

counted_key : (files : Files) (n : ℕ) (name : Name) → IsCounted files n name → key_of name ≡ record { region = 0; number = n }
counted_key files n name (inl is) = ap key_of is
counted_key files n name (inr old) = ap key_of old.1

pub counted_log : (files : Files) (n : ℕ) (name : Name) (bytes : List ℕ) (es : List Entry) (ended : Option ℕ) → IsCounted files n name → Reads files name bytes → IsLogText (key_of name) bytes es ended → HasLog files n es ended
counted_log files n name bytes es ended counts reads text =
    (bytes, counted_bytes files n name bytes counts reads, subst (λ (k : FileKey). IsLogText k bytes es ended) (counted_key files n name counts) text)

pub one_counts : (files : Files) (n : ℕ) (a b : Name) (x y : List ℕ) → IsCounted files n a → IsCounted files n b → Reads files a x → Reads files b y → a ≡ b
one_counts files n a b x y (inl is) (inl it) ra rb = is ∙ sym it
one_counts files n a b x y (inl is) (inr it) ra rb = absurd (cc (sym (subst (λ (m : Name). Reads files m x) is ra) ∙ it.0))
one_counts files n a b x y (inr is) (inl it) ra rb = absurd (cc (sym (subst (λ (m : Name). Reads files m y) it rb) ∙ is.0))
one_counts files n a b x y (inr is) (inr it) ra rb = is.1 ∙ sym it.1

-- ---- where the reader stops

over_told : (files : Files) (n : ℕ) (ended : Option ℕ) (higher : Bool) → IsTrue higher ↔ HasHigher files n → is_over n ended higher ≡ true → IsOver files n ended
over_told files n ended higher tells is = elim (or_cases higher (is_some ended && nat_lt n (2 ^ 64 - 1)) is) as (λ _. IsOver files n ended) [
  | inl above ↦ inl (tells.0 above)
  | inr end ↦ (let both = and_parts (is_some ended) (nat_lt n (2 ^ 64 - 1)) end in inr (ltb-true n (2 ^ 64 - 1) both.1, both.0))
]

over_is : (files : Files) (n : ℕ) (ended : Option ℕ) (higher : Bool) → IsTrue higher ↔ HasHigher files n → IsOver files n ended → is_over n ended higher ≡ true
over_is files n ended higher tells (inl above) = ap (λ (b : Bool). b || (is_some ended && nat_lt n (2 ^ 64 - 1))) (tells.1 above) ∙ true-or (is_some ended && nat_lt n (2 ^ 64 - 1))
over_is files n ended higher tells (inr end) =
    ap (λ (b : Bool). higher || (b && nat_lt n (2 ^ 64 - 1))) end.1 ∙ ap (λ (b : Bool). higher || (true && b)) (lt-ltb n (2 ^ 64 - 1) end.0) ∙ or-true higher

abbrev Stops : Files → Position → List Entry → Option ℕ → Position → Type 0
Stops files p es ended q = (IsOver files p.file ended × (q ≡ record { file = p.file + 1; entries = 0 })) ⊎ ((¬ IsOver files p.file ended) × (q ≡ record { file = p.file; entries = length es }))

stops_so : (files : Files) (p : Position) (es : List Entry) (ended : Option ℕ) (higher : Bool) → IsTrue higher ↔ HasHigher files p.file → Stops files p es ended (next_position p (length es) ended higher)
stops_so files p es ended higher tells = elim (cases_Bool (is_over p.file ended higher)) as (λ _. Stops files p es ended (next_position p (length es) ended higher)) [
  | inl is ↦ inl (over_told files p.file ended higher tells is, ap (λ (b : Bool). cond b (record { file = p.file + 1; entries = 0 }) (record { file = p.file; entries = length es })) is)
  | inr none ↦ inr ((λ over. absurd (cc (sym none ∙ over_is files p.file ended higher tells over))), ap (λ (b : Bool). cond b (record { file = p.file + 1; entries = 0 }) (record { file = p.file; entries = length es })) none)
]

-- the log was read
pub reads_so : (files : Files) (p q : Position) (es given : List Entry) (ended : Option ℕ) (higher : Bool) → IsTrue higher ↔ HasHigher files p.file → HasLog files p.file es ended → IsGiven p es given → q ≡ next_position p (length es) ended higher → IsRead files p given q
reads_so files p q es given ended higher tells log gives goes = inl (record {
  entries = es;
  ended = ended;
  log = log;
  within = gives.0;
  rest = gives.1;
  stops = subst (Stops files p es ended) (sym goes) (stops_so files p es ended higher tells);
})

-- there is none yet
pub awaits_so : (files : Files) (p q : Position) (given : List Entry) (higher : Bool) → IsTrue higher ↔ HasHigher files p.file → HasNoLog files p.file → given ≡ [] → p.entries ≡ 0 → higher ≡ false → q ≡ p → IsRead files p given q
awaits_so files p q given higher tells absent none first low stays = inr (record {
  absent = absent;
  highest = λ above. absurd (cc (sym low ∙ tells.1 above));
  first = first;
  none = none;
  stays = stays;
})

-- ---- refusals

module _ (files : Files) (p : Position) where
  -- the log is whole, so nothing of it is damaged
  pub whole_log : (es : List Entry) (ended : Option ℕ) → HasLog files p.file es ended → (name : Name) (at : ℕ) → IsDamagedAt files p.file name at → ⊥
  whole_log es ended log name at d =
      let same : log.0 ≡ d.bytes = some_same log.0 d.bytes (sym log.1 ∙ counted_bytes files p.file name d.bytes d.counts d.reads) in
      d.damaged.no_text es ended (subst (λ (k : FileKey). IsLogText k d.bytes es ended) (sym (counted_key files p.file name d.counts)) (subst (λ (b : List ℕ). IsLogText (record { region = 0; number = p.file }) b es ended) same log.2))

  pub no_log_whole : HasNoLog files p.file → (name : Name) (at : ℕ) → IsDamagedAt files p.file name at → ⊥
  no_log_whole absent name at d = not_there (bytes_of files p.file) d.bytes absent (counted_bytes files p.file name d.bytes d.counts d.reads)

  -- a position in a log that has enough entries
  pub is_within : (es : List Entry) (ended : Option ℕ) → HasLog files p.file es ended → p.entries ≤ length es → (file has : ℕ) → IsNoPosition files p file has → ⊥
  is_within es ended log le file has (same, inl (ds, end, other, fewer, is)) =
      let its : length ds ≡ length es = ap (λ (l : List Entry). length l) (one_log files p.file ds es end ended other log) in
      omega (arith, its, fewer, le)
  is_within es ended log le file has (same, inr (absent, passed, is)) = not_there (bytes_of files p.file) log.0 absent log.1

  -- the number of its entries is told
  pub has_so_many : (es : List Entry) (ended : Option ℕ) → HasLog files p.file es ended → (file has : ℕ) → IsNoPosition files p file has → (file ≡ p.file) × (has ≡ length es)
  has_so_many es ended log file has (same, inl (ds, end, other, fewer, is)) = (same, is ∙ ap (λ (l : List Entry). length l) (one_log files p.file ds es end ended other log))
  has_so_many es ended log file has (same, inr (absent, passed, is)) = absurd (not_there (bytes_of files p.file) log.0 absent log.1)

  pub awaits_it : HasNoLog files p.file → (higher : Bool) → IsTrue higher ↔ HasHigher files p.file → p.entries ≡ 0 → higher ≡ false → (file has : ℕ) → IsNoPosition files p file has → ⊥
  awaits_it absent higher tells first low file has (same, inl (ds, end, other, fewer, is)) = not_there (bytes_of files p.file) other.0 absent other.1
  awaits_it absent higher tells first low file has (same, inr (none, inl some, is)) = omega (arith, some, first)
  awaits_it absent higher tells first low file has (same, inr (none, inr above, is)) = absurd (cc (sym low ∙ tells.1 above))

  pub has_none : HasNoLog files p.file → (file has : ℕ) → IsNoPosition files p file has → (file ≡ p.file) × (has ≡ 0)
  has_none absent file has (same, inl (ds, end, other, fewer, is)) = absurd (not_there (bytes_of files p.file) other.0 absent other.1)
  has_none absent file has (same, inr (none, passed, is)) = (same, is)

-- what is damaged isn't whole
pub damaged_log : (files : Files) (p : Position) (name : Name) (bytes : List ℕ) (at : ℕ) → IsCounted files p.file name → Reads files name bytes → IsDamaged (key_of name) bytes at → (file has : ℕ) → IsNoPosition files p file has → ⊥
damaged_log files p name bytes at counts reads damaged file has (same, inl (ds, end, other, fewer, is)) =
    whole_log files p ds end other name at (record { counts = counts; bytes = bytes; reads = reads; damaged = damaged })
damaged_log files p name bytes at counts reads damaged file has (same, inr (absent, passed, is)) =
    no_log_whole files p absent name at (record { counts = counts; bytes = bytes; reads = reads; damaged = damaged })

-- the reading was refused: damage is told as it is
pub damage_told : {T : Type 0} (files : Files) (n : ℕ) (name : Name) (bytes : List ℕ) (e : TailRefusal) → IsCounted files n name → Reads files name bytes → IsReadingRefusal name bytes e
    → (other : Name) (at : ℕ) → IsDamagedAt files n other at → IsOrEarlier {T = T} (Err e) (refusals.Damaged other at)
damage_told files n name bytes refusals.Memory counts reads refused other at d = inr (inl refl)
damage_told files n name bytes refusals.DiskFault counts reads refused other at d = inr (inr refl)
damage_told files n name bytes (refusals.Damaged damaged k) counts reads refused other at d =
    let same : name ≡ other = one_counts files n name other bytes d.bytes counts d.counts reads d.reads in
    let its : d.bytes ≡ bytes = some_same d.bytes bytes (sym d.reads ∙ subst (λ (m : Name). Reads files m bytes) same reads) in
    let there : IsDamaged (key_of name) bytes at = subst (λ (m : Name). IsDamaged (key_of m) bytes at) (sym same) (subst (λ (b : List ℕ). IsDamaged (key_of other) b at) its d.damaged) in
    inl (λ i. Err (refusals.Damaged ((refused.0 ∙ same) i) (one_damage (key_of name) bytes k at refused.1 there i)))
damage_told files n name bytes (refusals.NoPosition file has) counts reads refused other at d = absurd refused

pub damage_is : (files : Files) (n : ℕ) (name : Name) (bytes : List ℕ) (e : TailRefusal) → IsCounted files n name → Reads files name bytes → IsReadingRefusal name bytes e
    → (other : Name) (at : ℕ) → e ≡ refusals.Damaged other at → IsDamagedAt files n other at
damage_is files n name bytes refusals.Memory counts reads refused other at is = absurd cc
damage_is files n name bytes refusals.DiskFault counts reads refused other at is = absurd cc
damage_is files n name bytes (refusals.NoPosition file has) counts reads refused other at is = absurd refused
damage_is files n name bytes (refusals.Damaged damaged k) counts reads refused other at is =
    let name_is : name ≡ other = sym refused.0 ∙ cc in
    let at_is : k ≡ at = cc in
    record {
      counts = subst (IsCounted files n) name_is counts;
      bytes = bytes;
      reads = subst (λ (m : Name). Reads files m bytes) name_is reads;
      damaged = subst (λ (m : Name). IsDamaged (key_of m) bytes at) name_is (subst (IsDamaged (key_of name) bytes) at_is refused.1);
    }

-- it tells no position
pub reading_tells_none : (name : Name) (bytes : List ℕ) (e : TailRefusal) → IsReadingRefusal name bytes e → (file has : ℕ) → e ≢ refusals.NoPosition file has
reading_tells_none name bytes refusals.Memory refused file has is = absurd cc
reading_tells_none name bytes refusals.DiskFault refused file has is = absurd cc
reading_tells_none name bytes (refusals.Damaged damaged k) refused file has is = absurd cc
reading_tells_none name bytes (refusals.NoPosition f h) refused file has is = absurd refused

pub out_told : {T : Type 0} (files : Files) (p : Position) (name : Name) (bytes : List ℕ) (e : TailRefusal) → IsCounted files p.file name → Reads files name bytes → IsReadingRefusal name bytes e
    → (file has : ℕ) → IsNoPosition files p file has → IsOrEarlier {T = T} (Err e) (refusals.NoPosition file has)
out_told files p name bytes refusals.Memory counts reads refused file has out = inr (inl refl)
out_told files p name bytes refusals.DiskFault counts reads refused file has out = inr (inr refl)
out_told files p name bytes (refusals.Damaged damaged k) counts reads refused file has out = absurd (damaged_log files p name bytes k counts reads refused.1 file has out)
out_told files p name bytes (refusals.NoPosition f h) counts reads refused file has out = absurd refused

-- ---- a log that was read

module _ (files : Files) (p : Position) (es : List Entry) (ended : Option ℕ) (log : HasLog files p.file es ended) (result : Result (List Entry) TailRefusal) where
  pub given_so : (q : Position) (higher : Bool) → IsTrue higher ↔ HasHigher files p.file → IfOk result (λ given. IsGiven p es given) → OnOk result (q ≡ next_position p (length es) ended higher)
      → IfOk result (λ given. IsRead files p given q)
  given_so q higher tells gives goes = of result gives goes
    where
      of : (r : Result (List Entry) TailRefusal) → IfOk r (λ given. IsGiven p es given) → OnOk r (q ≡ next_position p (length es) ended higher) → IfOk r (λ given. IsRead files p given q)
      of (Ok given) g n = reads_so files p q es given ended higher tells log g n
      of (Err e) g n = tt

  pub fewer_so : IfErr result (λ e. IsTooFar p (length es) e) → (file has : ℕ) → result ≡ Err (refusals.NoPosition file has) → IsNoPosition files p file has
  fewer_so far file has is = of result far is
    where
      of : (r : Result (List Entry) TailRefusal) → IfErr r (λ e. IsTooFar p (length es) e) → r ≡ Err (refusals.NoPosition file has) → IsNoPosition files p file has
      of (Ok given) f i = absurd cc
      of (Err e) f i =
          let its : e ≡ refusals.NoPosition file has = cc i in
          let same : refusals.NoPosition p.file (length es) ≡ refusals.NoPosition file has = sym f.1 ∙ its in
          let file_is : file ≡ p.file = cc same in
          let has_is : has ≡ length es = cc same in
          (file_is, inl (es, ended, log, f.0, has_is))

  pub out_so : IfOk result (λ given. IsGiven p es given) → IfErr result (λ e. IsTooFar p (length es) e) → (file has : ℕ) → IsNoPosition files p file has → IsOrEarlier result (refusals.NoPosition file has)
  out_so gives far file has out = of result gives far
    where
      of : (r : Result (List Entry) TailRefusal) → IfOk r (λ given. IsGiven p es given) → IfErr r (λ e. IsTooFar p (length es) e) → IsOrEarlier r (refusals.NoPosition file has)
      of (Ok given) g f = absurd (is_within files p es ended log g.0 file has out)
      of (Err e) g f = let so = has_so_many files p es ended log file has out in inl (ap Err (f.1 ∙ (λ i. refusals.NoPosition (sym so.0 i) (sym so.1 i))))
