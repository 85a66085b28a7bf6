-- The names of files stay within their bounds.
use Rattle.std.proofs.Common.{◌≡◌, ◌≢◌, ◌⊎◌, inl, inr, ℕ, ◌<◌, ◌≤◌, ◌^◌, List, get_or, None, refl, sym, ap, ◌∙◌, subst, arith}
use Rattle.log_model.specs.declared.name.Name.{Name}
use Rattle.log_model.specs.declared.name.NameKind.{NameKind}
use Rattle.log_model.specs.declared.name.NameKind.TheVariants as kinds
use Rattle.log_model.specs.Files.{Files, content, SameBut, Same, IsAbsent, IsPresent, IsFit, IsSound}
use Rattle.disk_images.specs.Crash.{DiskView, Throughout}
use Rattle.disk_images.proofs.Moments.{at_once, more_time}
use Rattle.recovery_laws.proofs.Names.{name_cases}
use Rattle.log_file.specs.Open.{OpenLog}
use Rattle.log_ledger.specs.History.{History}
use Rattle.log_device.specs.Keeps.{Keeps, log_name, old_name}
use Rattle.log_device.specs.Bears.{Bears}
use Rattle.log_device.proofs.Disk.{present_before, up_to_but}

pub bears_same : (found : Files) (ns : List ℕ) (last : ℕ) (I J : Files) → Same I J → Bears found ns last I → Bears found ns last J
bears_same found ns last I J same was = record {
  logs = λ m kind there. was.logs m kind (λ none. there (same m ∙ none));
  olds = λ m kind there. was.olds m kind (λ none. there (same m ∙ none));
  apart = λ a b log old a_in b_in. was.apart a b log old (λ none. a_in (same a ∙ none)) (λ none. b_in (same b ∙ none));
  stores = λ m kind there. was.stores m kind (λ none. there (same m ∙ none));
  no_edits = λ m kind. same m ∙ was.no_edits m kind;
}

-- higher numbers may be borne
pub bears_on : (found : Files) (ns after : List ℕ) (last now : ℕ) (J : Files) → last ≤ now → ((r : ℕ) → get_or ns r 0 ≤ get_or after r 0) → Bears found ns last J → Bears found after now J
bears_on found ns after last now J more grows was = record {
  logs = λ m kind there. let up = was.logs m kind there in (up.0, omega (arith, up.1, more));
  olds = λ m kind there. let up = was.olds m kind there in (up.0, omega (arith, up.1, more));
  apart = was.apart;
  stores = λ m kind there. elim (was.stores m kind there) as (λ _. IsPresent found m ⊎ ((1 ≤ m.region) × (m.region ≤ 64) × (m.number ≤ get_or after m.region 0))) [
    | inl old ↦ inl old
    | inr new ↦ inr (new.0, new.1, omega (arith, new.2, grows m.region))
  ];
  no_edits = was.no_edits;
}

-- the last log differs
pub bears_log : (found : Files) (ns : List ℕ) (name : Name) (I J : Files) → name.kind ≡ kinds.Log → name.region ≡ 0 → SameBut name I J → Bears found ns name.number I → Bears found ns name.number J
bears_log found ns name I J log region same was = record {
  logs = up_to_but name name.number I J same (λ _. (region, omega arith)) was.logs;
  olds = λ m old there. was.olds m old (old_before m old there);
  apart = λ a b a_log old a_in b_in.
      let b_before = old_before b old b_in in
      elim (name_cases a name) as (λ _. a.number ≢ b.number) [
        | inl is ↦ λ at. let low = was.olds b old b_before in let number : a.number ≡ name.number = ap (λ (x : Name). x.number) is in absurd (omega (arith, low.1, number, at))
        | inr far ↦ was.apart a b a_log old (present_before name a I J same far a_in) b_before
      ];
  stores = λ m kind there. was.stores m kind (present_before name m I J same (λ is. absurd (cc (sym kind ∙ ap (λ (x : Name). x.kind) is ∙ log))) there);
  no_edits = λ m kind. same m (λ is. absurd (cc (sym kind ∙ ap (λ (x : Name). x.kind) is ∙ log))) ∙ was.no_edits m kind;
}
  where
    old_before : (m : Name) → m.kind ≡ kinds.Old → IsPresent J m → IsPresent I m
    old_before m old there = present_before name m I J same (λ is. absurd (cc (sym old ∙ ap (λ (x : Name). x.kind) is ∙ log))) there

-- a store file with its region's next number differs
pub bears_store : (found : Files) (ns : List ℕ) (last : ℕ) (name : Name) (I J : Files) → name.kind ≡ kinds.Store → (1 ≤ name.region) × (name.region ≤ 64) → name.number ≤ get_or ns name.region 0 → SameBut name I J → Bears found ns last I → Bears found ns last J
bears_store found ns last name I J store region number same was = record {
  logs = λ m kind there. was.logs m kind (before m (λ is. cc (sym kind ∙ is)) there);
  olds = λ m kind there. was.olds m kind (before m (λ is. cc (sym kind ∙ is)) there);
  apart = λ a b log old a_in b_in. was.apart a b log old (before a (λ is. cc (sym log ∙ is)) a_in) (before b (λ is. cc (sym old ∙ is)) b_in);
  stores = λ m kind there. elim (name_cases m name) as (λ _. IsPresent found m ⊎ ((1 ≤ m.region) × (m.region ≤ 64) × (m.number ≤ get_or ns m.region 0))) [
    | inl is ↦ subst (λ (x : Name). IsPresent found x ⊎ ((1 ≤ x.region) × (x.region ≤ 64) × (x.number ≤ get_or ns x.region 0))) (sym is) (inr (region.0, region.1, number))
    | inr far ↦ was.stores m kind (present_before name m I J same far there)
  ];
  no_edits = λ m kind. same m (λ is. absurd (cc (sym kind ∙ ap (λ (x : Name). x.kind) is ∙ store))) ∙ was.no_edits m kind;
}
  where
    before : (m : Name) → (m.kind ≡ kinds.Store → ⊥) → IsPresent J m → IsPresent I m
    before m differs there = present_before name m I J same (λ is. differs (ap (λ (x : Name). x.kind) is ∙ store)) there

-- a log was renamed
pub bears_moved : (found : Files) (ns : List ℕ) (last n : ℕ) (I J : Files) → n < last → IsAbsent J (log_name n) → ((m : Name) → m ≢ log_name n → m ≢ old_name n → content J m ≡ content I m)
    → Bears found ns last I → Bears found ns last J
bears_moved found ns last n I J low gone same was = record {
  logs = λ m kind there. was.logs m kind (log_before m kind there);
  olds = λ m kind there. elim (name_cases m (old_name n)) as (λ _. (m.region ≡ 0) × (m.number < last)) [
    | inl is ↦ let number : m.number ≡ n = ap (λ (x : Name). x.number) is in (ap (λ (x : Name). x.region) is, omega (arith, number, low))
    | inr far ↦ was.olds m kind (old_before m kind far there)
  ];
  apart = λ a b log old a_in b_in. elim (name_cases b (old_name n)) as (λ _. a.number ≢ b.number) [
    | inl is ↦ λ at.
        let region = (was.logs a log (log_before a log a_in)).0 in
        let number : a.number ≡ n = at ∙ ap (λ (x : Name). x.number) is in
        absurd (far_log a a_in (λ i. record { kind = log i; region = region i; number = number i }))
    | inr far ↦ was.apart a b log old (log_before a log a_in) (old_before b old far b_in)
  ];
  stores = λ m kind there. was.stores m kind (λ none. there (same m (λ is. absurd (cc (sym kind ∙ ap (λ (x : Name). x.kind) is))) (λ is. absurd (cc (sym kind ∙ ap (λ (x : Name). x.kind) is))) ∙ none));
  no_edits = λ m kind. same m (λ is. absurd (cc (sym kind ∙ ap (λ (x : Name). x.kind) is))) (λ is. absurd (cc (sym kind ∙ ap (λ (x : Name). x.kind) is))) ∙ was.no_edits m kind;
}
  where
    far_log : (m : Name) → IsPresent J m → m ≢ log_name n
    far_log m there is = there (subst (λ (x : Name). content J x ≡ None) (sym is) gone)

    log_before : (m : Name) → m.kind ≡ kinds.Log → IsPresent J m → IsPresent I m
    log_before m kind there none = there (same m (far_log m there) (λ is. absurd (cc (sym kind ∙ ap (λ (x : Name). x.kind) is))) ∙ none)

    old_before : (m : Name) → m.kind ≡ kinds.Old → m ≢ old_name n → IsPresent J m → IsPresent I m
    old_before m kind far there none = there (same m (λ is. absurd (cc (sym kind ∙ ap (λ (x : Name). x.kind) is))) far ∙ none)

-- where nothing is done
pub still_names : (file : OpenLog) (u : DiskView) (h : History) (ns : List ℕ) → Keeps file u h ns → (last by : ℕ) → file.name.number ≤ last → Throughout (Bears h.kept.base ns last) by u u
still_names file u h ns keeps last by more =
    more_time (Bears h.kept.base ns last) 0 by u u (omega arith) (at_once (Bears h.kept.base ns last) u (λ J there. bears_on h.kept.base ns ns file.name.number last J more (λ r. omega arith) (keeps.names J there)))

abbrev IsOneOf : NameKind → Type 0
IsOneOf k = (k ≡ kinds.Log) ⊎ (k ≡ kinds.Old) ⊎ (k ≡ kinds.Store) ⊎ (k ≡ kinds.Edits)

one_of : (k : NameKind) → IsOneOf k
one_of kinds.Log = inl refl
one_of kinds.Old = inr (inl refl)
one_of kinds.Store = inr (inr (inl refl))
one_of kinds.Edits = inr (inr (inr refl))

-- files of a device that was started on sound files are sound, where no number passes the limit of names
pub sound_by : (found J : Files) (ns : List ℕ) (last : ℕ) → IsSound found → last ≤ 2 ^ 62 → ((r : ℕ) → get_or ns r 0 ≤ 2 ^ 62) → IsFit J → Bears found ns last J → IsSound J
sound_by found J ns last sound last_low stores_low fit bears = record {
  fit = fit;
  regions = λ m there either. elim either as (λ _. (1 ≤ m.region) × (m.region ≤ 64)) [
    | inl store ↦ elim (bears.stores m store there) as (λ _. (1 ≤ m.region) × (m.region ≤ 64)) [ inl old ↦ sound.regions m old either | inr new ↦ (new.0, new.1) ]
    | inr edits ↦ absurd (there (bears.no_edits m edits))
  ];
  numbers = λ m there. elim (one_of m.kind) as (λ _. m.number ≤ 2 ^ 62) [
    | inl log ↦ let up = bears.logs m log there in omega (arith, up.1, last_low)
    | inr (inl old) ↦ let up = bears.olds m old there in omega (arith, up.1, last_low)
    | inr (inr (inl store)) ↦ elim (bears.stores m store there) as (λ _. m.number ≤ 2 ^ 62) [ inl was ↦ sound.numbers m was | inr new ↦ omega (arith, new.2, stores_low m.region) ]
    | inr (inr (inr edits)) ↦ absurd (there (bears.no_edits m edits))
  ];
  apart = λ a b a_in b_in log old. bears.apart a b log old a_in b_in;
}
