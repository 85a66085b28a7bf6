-- What the replay of one region leaves of the others.
use Rattle.std.proofs.Common.{◌≡◌, ◌≢◌, ◌⊎◌, inl, inr, ℕ, ◌≤◌, List, [], Contains, Option, refl, sym, ap, ◌∙◌, subst, arith}
use Rattle.std.proofs.lemmas.Bool.{cases_eq}
use Rattle.log_model.specs.declared.name.Name.{Name}
use Rattle.log_model.specs.declared.name.NameKind.{NameKind}
use Rattle.log_model.specs.declared.name.NameKind.TheVariants as kinds
use Rattle.log_model.specs.Entry.{Entry}
use Rattle.log_model.specs.StoreText.{Store}
use Rattle.log_model.specs.Files.{Files, content, IsAbsent, IsLogged, IsPresent, IsLogFile, IsStoreFile}
use Rattle.log_model.specs.Recovered.{IsGreatest, IsCounting, FlushesTo, IsFlushed}
use Rattle.disk_images.proofs.Settled.{present_cases}
use Rattle.recovery_laws.proofs.Names.{name_cases}
use Rattle.recovery_laws.specs.Change.{HasText}
use Rattle.recovery_laws.specs.Alike.{AllAlike}
use Rattle.found_files.proofs.Greatest.{greatest_same}
use Rattle.found_files.proofs.InRegion.{entry_region}
use Rattle.wal_split.specs.Flushed.{flushed_of}
use Rattle.wal_split.specs.Unflushed.{IsUnflushedEntry}
use Rattle.region_replay.specs.declared.found.RegionFiles.{RegionFiles}
use Rattle.region_replay.specs.Names.{store_name, IsElsewhere}
use Rattle.region_replay.specs.Ready.{Found, IsOf}
use Rattle.region_replay.specs.Regions.{Reaches, IsInOrder, IsFound}
use Rattle.region_replay.proofs.Finding.{no_store, no_edits}

-- the region's store and edits files are the same
abbrev pub SameOf : ℕ → Files → Files → Type 0
SameOf r I J = (m : Name) → (m.kind ≡ kinds.Store) ⊎ (m.kind ≡ kinds.Edits) → m.region ≡ r → content J m ≡ content I m

back : (r : ℕ) (I J : Files) → SameOf r I J → SameOf r J I
back r I J same m kind region = sym (same m kind region)

store_on : (r : ℕ) (I J : Files) → SameOf r I J → (name : Name) (s : Store) → IsStoreFile I r name s → IsStoreFile J r name s
store_on r I J same name s f = record { kind = f.kind; of = f.of; bytes = f.bytes; there = same name (inl f.kind) f.of ∙ f.there; gate = f.gate; text = f.text }

counts_on : (r : ℕ) (I J : Files) → SameOf r I J → (name : Name) (s : Store) → IsCounting I r name s → IsCounting J r name s
counts_on r I J same name s c = record { file = store_on r I J same name s c.file; stands = λ other t file scope. c.stands other t (store_on r J I (back r I J same) other t file) scope }

flushes_on : (r : ℕ) (I J : Files) → SameOf r I J → (f : List ℕ) (n : ℕ) → FlushesTo I r f n → FlushesTo J r f n
flushes_on r I J same f n (name, s, c, is_for, to) = (name, s, counts_on r I J same name s c, is_for, to)

pub flushed_on : (r : ℕ) (I J : Files) → SameOf r I J → (f : List ℕ) (n : ℕ) → IsFlushed I r f n → IsFlushed J r f n
flushed_on r I J same f n is = record {
  reached = elim is.reached as (λ _. FlushesTo J r f n ⊎ (n ≡ 0)) [ inl a ↦ inl (flushes_on r I J same f n a) | inr zero ↦ inr zero ];
  bound = λ m g. is.bound m (flushes_on r J I (back r I J same) f m g);
}

reached_on : (r : ℕ) (I J : Files) → SameOf r I J → (n : ℕ) → IsGreatest (Reaches I r) n → IsGreatest (Reaches J r) n
reached_on r I J same n is = greatest_same (Reaches I r) (Reaches J r) n is
    (λ m h. (h.0, h.1, counts_on r I J same h.0 h.1 h.2, h.3)) (λ m h. (h.0, h.1, counts_on r J I (back r I J same) h.0 h.1 h.2, h.3))

-- an entry of the region with a cell that isn't flushed
unflushed_on : (r : ℕ) (I J : Files) → SameOf r I J → (e : Entry) → e.region ≡ r → IsUnflushedEntry I e → IsUnflushedEntry J e
unflushed_on r I J same e region (f, has, above) = (f, has, λ n g. above n (subst (λ (q : ℕ). FlushesTo I q f n) (sym region) (flushes_on r J I (back r I J same) f n (subst (λ (q : ℕ). FlushesTo J q f n) region g))))

pub no_log_edits : (files : Files) → ((m : Name) → m.kind ≡ kinds.Log → IsAbsent files m) → (m : Name) (l : List Entry) → IsLogFile files m l → m.kind ≡ kinds.Edits
no_log_edits files none m l f = elim f.kind as (λ _. m.kind ≡ kinds.Edits) [ inl log ↦ absurd (cc (sym (none m log) ∙ f.there)) | inr edits ↦ edits ]

-- what is logged of the region stands in its edits files
logged_on : (I J : Files) (r : ℕ) → SameOf r I J → ((m : Name) → m.kind ≡ kinds.Log → IsAbsent I m) → ((m : Name) → m.kind ≡ kinds.Edits → IsPresent I m → 1 ≤ m.region) → (e : Entry) → e.region ≡ r → IsLogged I e → IsLogged J e
logged_on I J r same none given e region logged =
    let kind = no_log_edits I none logged.name logged.entries logged.file in
    let of : e.region ≡ logged.name.region = entry_region I logged.name logged.entries e logged.file logged.member (given logged.name kind (λ gone. absurd (cc (sym gone ∙ logged.file.there)))) in
    record {
      name = logged.name;
      entries = logged.entries;
      file = record { kind = logged.file.kind; bytes = logged.file.bytes; there = same logged.name (inr kind) (sym of ∙ region) ∙ logged.file.there; ended = logged.file.ended; text = logged.file.text };
      member = logged.member;
    }

-- what stands in a region's files stands there where they are the same
pub found_on : (I J : Files) (x : RegionFiles) → SameOf x.region I J → ((m : Name) → m.kind ≡ kinds.Log → IsAbsent I m) → ((m : Name) → m.kind ≡ kinds.Log → IsAbsent J m) → ((m : Name) → m.kind ≡ kinds.Edits → IsPresent I m → 1 ≤ m.region) → ((m : Name) → m.kind ≡ kinds.Edits → IsPresent J m → 1 ≤ m.region)
    → {told : Type 0} → IsInOrder told x → IsFound I x → IsFound J x
found_on I J x same none_i none_j given_i given_j {told} order f = record {
  stores = f.stores;
  are_stores = record {
    each = λ y has. (let s = f.are_stores.each y has in (s.0, counts_on x.region I J same s.0 y.1 s.1, s.2));
    all = λ name s counts. f.are_stores.all name s (counts_on x.region J I (back x.region I J same) name s counts);
    rising = f.are_stores.rising;
  };
  cells = f.cells;
  unflushed = record {
    each = λ e has. (
        let u = f.unflushed.each e has in
        (logged_on I J x.region same none_i given_i e u.1 u.0, u.1, unflushed_on x.region I J same e u.1 u.2));
    all = λ e logged region unflushed. f.unflushed.all e (logged_on J I x.region (back x.region I J same) none_j given_j e region logged) region (unflushed_on x.region J I (back x.region I J same) e region unflushed);
    apart = f.unflushed.apart;
  };
  edited = λ e has. (
      let d = f.edited e has in
      let region = (f.unflushed.each e has).1 in
      let of : e.region ≡ d.name.region = entry_region I d.name d.entries e d.file d.member (given_i d.name d.kind (λ gone. absurd (cc (sym gone ∙ d.file.there)))) in
      record { name = d.name; entries = d.entries; file = record { kind = d.file.kind; bytes = d.file.bytes; there = same d.name (inr d.kind) (sym of ∙ region) ∙ d.file.there; ended = d.file.ended; text = d.file.text }; kind = d.kind; member = d.member });
  whole = flushed_on x.region I J same [] x.flushed.whole f.whole;
  flushed = λ g. flushed_on x.region I J same g (flushed_of x.flushed g) (f.flushed g);
  last = reached_on x.region I J same x.flushed.last f.last;
  next = λ m store region here. f.next m store region (λ gone. here (same m (inl store) region ∙ gone));
  few = λ n bound. f.few n (λ m store region here. bound m store region (λ gone. here (sym (same m (inl store) region) ∙ gone)));
  texts = λ m has. (
      let t = f.texts m has in
      (t.0, t.1, subst (λ (o : Option (List ℕ)). HasText m t.0 t.1 o) (sym (same m (inr (order.edits.kind m has)) (order.of m has))) t.2, t.3));
  all = λ m edits region here. f.all m edits region (λ gone. here (same m (inr edits) region ∙ gone));
}

-- what was recovered of a region stays where its stores are the same
pub of_on : (old I J : Files) (r : ℕ) (y : Found) → SameOf r I J → IsOf old I r y → IsOf old J r y
of_on old I J r y same f = record {
  content = f.content;
  last = f.last;
  flushed = λ g. flushed_on r I J same g y.flushed (f.flushed g);
  next = λ m store region here. f.next m store region (λ gone. here (same m (inl store) region ∙ gone));
  few = λ n bound. f.few n (λ m store region here. bound m store region (λ gone. here (sym (same m (inl store) region) ∙ gone)));
}

-- files that recover alike give the same
pub of_alike : (old now new : Files) (r : ℕ) (y : Found) → AllAlike old now → IsOf now new r y → IsOf old new r y
of_alike old now new r y alike f = record {
  content = λ v p. (λ is. ((alike r).content v p).1 ((f.content v p).0 is), λ h. (f.content v p).1 (((alike r).content v p).0 h));
  last = ((alike r).last y.base.last).1 f.last;
  flushed = f.flushed;
  next = f.next;
  few = f.few;
}

edits_cases : (k : NameKind) → (k ≡ kinds.Edits) ⊎ (k ≢ kinds.Edits)
edits_cases kinds.Log = inr (λ is. absurd cc)
edits_cases kinds.Old = inr (λ is. absurd cc)
edits_cases kinds.Store = inr (λ is. absurd cc)
edits_cases kinds.Edits = inl refl

-- a name of another region's files is none of this one's
module _ {told : Type 0} (x : RegionFiles) (order : IsInOrder told x) (I J : Files) (others : (m : Name) → m ≢ store_name x.region x.next_store → ((n : Name) → Contains x.edits.items n → m ≢ n) → content J m ≡ content I m) where
  pub else_same : (m : Name) → IsElsewhere x.region m → content J m ≡ content I m
  else_same m other = others m (no_store x order m other) (no_edits x order m other)

  pub same_of : (r : ℕ) → x.region ≢ r → SameOf r I J
  same_of r apart m kind region = else_same m (λ _ is. apart (sym is ∙ region))

  pub no_logs_on : ((m : Name) → m.kind ≡ kinds.Log → IsAbsent I m) → (m : Name) → m.kind ≡ kinds.Log → IsAbsent J m
  no_logs_on none m log = else_same m (λ kind _. elim kind as (λ _. ⊥) [ inl store ↦ absurd (cc (sym log ∙ store)) | inr edits ↦ absurd (cc (sym log ∙ edits)) ]) ∙ none m log

  pub given_on : ((m : Name) → m.kind ≡ kinds.Edits → IsPresent I m → 1 ≤ m.region) → (m : Name) → m.kind ≡ kinds.Edits → IsPresent J m → 1 ≤ m.region
  given_on given m edits here = elim (cases_eq m.region x.region) as (λ _. 1 ≤ m.region) [
    | inl is ↦ (let one = order.given in omega (arith, is, one))
    | inr other ↦ given m edits (λ gone. here (else_same m (λ _ is. other is) ∙ gone))
  ]

  pub none_left : IsFound I x → ((m : Name) → Contains x.edits.items m → IsAbsent J m) → (m : Name) → m.kind ≡ kinds.Edits → m.region ≡ x.region → IsAbsent J m
  none_left found left m edits region = elim (present_cases I m) as (λ _. IsAbsent J m) [
    | inl none ↦ others m (λ is. absurd (cc (sym edits ∙ ap (λ (k : Name). k.kind) is))) (λ n has is. (let t = found.texts n has in absurd (cc (sym none ∙ ap (λ (k : Name). content I k) is ∙ t.2.there)))) ∙ none
    | inr some ↦ left m (found.all m edits region (λ gone. absurd (cc (sym gone ∙ some.1))))
  ]

  pub no_new : IsFound I x → ((m : Name) → Contains x.edits.items m → IsAbsent J m) → (m : Name) → IsPresent J m → IsPresent I m ⊎ (m ≡ store_name x.region x.next_store)
  no_new found left m here = elim (name_cases m (store_name x.region x.next_store)) as (λ _. IsPresent I m ⊎ (m ≡ store_name x.region x.next_store)) [
    | inl is ↦ inr is
    | inr other ↦ elim (cases_eq m.region x.region) as (λ _. IsPresent I m ⊎ (m ≡ store_name x.region x.next_store)) [
      | inr apart ↦ inl (λ gone. here (others m other (λ n has is. apart (ap (λ (k : Name). k.region) is ∙ order.of n has)) ∙ gone))
      | inl same ↦ elim (edits_cases m.kind) as (λ _. IsPresent I m ⊎ (m ≡ store_name x.region x.next_store)) [
        | inl edits ↦ absurd (here (none_left found left m edits same))
        | inr else_kind ↦ inl (λ gone. here (others m other (λ n has is. else_kind (ap (λ (k : Name). k.kind) is ∙ order.edits.kind n has)) ∙ gone))
      ]
    ]
  ]
