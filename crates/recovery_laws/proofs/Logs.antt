-- What is logged, where one file of entries differs.
use Rattle.std.proofs.Common.{◌≡◌, ◌≢◌, ◌⊎◌, inl, inr, ℕ, List, [], ◌++◌, Contains, Option, Some, None, sym, ◌∙◌, subst, arith}
use Rattle.std.specs.FinMap.{get}
use Rattle.std.proofs.lemmas.List.Elements.{Contains-append_left, Contains-append_right, Contains-append_cases}
use Rattle.log_model.specs.declared.name.Name.{Name}
use Rattle.log_model.specs.Entry.{Entry}
use Rattle.log_model.specs.LogText.{IsLogText}
use Rattle.log_model.specs.Files.{Files, SameBut, HoldsEntries, key_of, IsLogFile, IsLogged, IsFit}
use Rattle.log_model.specs.Recovered.{FlushesTo, IsRecovered}
use Rattle.log_model.proofs.TextLaws.{one_text}
use Rattle.recovery_laws.specs.Change.{PutBy, RecoversWith, HasText, HasEntries, Grown, Agrees, IsFresh}
use Rattle.recovery_laws.proofs.Names.{name_cases, store_apart}
use Rattle.recovery_laws.proofs.Stores.{Counts, SameStores, stores_back, store_kept, counts_kept, flushes_by, stored_by}

-- an entry of another file than this one
pub record IsElsewhere (files : Files) (name : Name) (e : Entry) : Type 0 where
  pub other : Name
  pub apart : other ≢ name
  pub entries : List Entry
  pub file : IsLogFile files other entries
  pub member : Contains entries e

pub elsewhere_logged : (files : Files) (name : Name) (e : Entry) → IsElsewhere files name e → IsLogged files e
elsewhere_logged files name e h = record { name = h.other; entries = h.entries; file = h.file; member = h.member }

pub same_stores : (name : Name) (I J : Files) → HoldsEntries name.kind → SameBut name I J → SameStores I J
same_stores name I J holds same n kind = same n (store_apart n name kind holds)

pub file_kept : (name : Name) (I J : Files) → SameBut name I J → (other : Name) (es : List Entry) → other ≢ name → IsLogFile I other es → IsLogFile J other es
file_kept name I J same other es apart f = record { kind = f.kind; bytes = f.bytes; there = same other apart ∙ f.there; ended = f.ended; text = f.text }

pub elsewhere_kept : (name : Name) (I J : Files) → SameBut name I J → (e : Entry) → IsElsewhere I name e → IsElsewhere J name e
elsewhere_kept name I J same e h = record { other = h.other; apart = h.apart; entries = h.entries; file = file_kept name I J same h.other h.entries h.apart h.file; member = h.member }

pub none_some : {A : Type 0} (x : Option A) (a : A) → x ≡ None → x ≡ Some a → ⊥
none_some x a none some = absurd (cc (none, some))

-- a file with these entries has no others
pub one_list : (files : Files) (name : Name) (es ds : List Entry) → HasEntries name es (get files name) → IsLogFile files name ds → es ≡ ds
one_list files name es ds (inl (ended, h)) f =
    let same : Some h.bytes ≡ Some f.bytes = sym h.there ∙ f.there in
    let bytes : h.bytes ≡ f.bytes = cc (same) in
    (one_text (key_of name) f.bytes es ds ended f.ended (subst (λ (b : List ℕ). IsLogText (key_of name) b es ended) bytes h.text) f.text).0
one_list files name es ds (inr h) f = absurd (none_some (get files name) f.bytes h.0 f.there)

-- an entry stands in this file or elsewhere
pub logged_cases : (files : Files) (name : Name) (es : List Entry) → HasEntries name es (get files name) → (e : Entry) → IsLogged files e → Contains es e ⊎ IsElsewhere files name e
logged_cases files name es has e h =
    elim (name_cases h.name name) as (λ _. Contains es e ⊎ IsElsewhere files name e) [
      | inl same ↦
          let file : IsLogFile files name h.entries = subst (λ (n : Name). IsLogFile files n h.entries) same h.file in
          inl (subst (λ (l : List Entry). Contains l e) (sym (one_list files name es h.entries has file)) h.member)
      | inr apart ↦ inr (record { other = h.name; apart = apart; entries = h.entries; file = h.file; member = h.member })
    ]

pub text_file : (files : Files) (name : Name) (es : List Entry) (ended : Option ℕ) → HoldsEntries name.kind → HasText name es ended (get files name) → IsLogFile files name es
text_file files name es ended kind h = record { kind = kind; bytes = h.bytes; there = h.there; ended = ended; text = h.text }

pub logged_here : (files : Files) (name : Name) (es : List Entry) (e : Entry) → HoldsEntries name.kind → HasEntries name es (get files name) → Contains es e → IsLogged files e
logged_here files name es e kind (inl (ended, h)) member = record { name = name; entries = es; file = text_file files name es ended kind h; member = member }
logged_here files name es e kind (inr h) member = let found : Contains [] e = subst (λ (l : List Entry). Contains l e) h.1 member in absurd (omega (arith, found.1))

module _ (name : Name) (kind : HoldsEntries name.kind) (I J : Files) (same : SameBut name I J) (es more after : List Entry) (grows : after ≡ es ++ more)
    (has : HasEntries name es (get I name)) (now : HasEntries name after (get J name)) where
  back : SameBut name J I
  back m apart = sym (same m apart)

  logged_before : (e : Entry) → IsLogged J e → IsLogged I e ⊎ Contains more e
  logged_before e h = elim (logged_cases J name after now e h) as (λ _. IsLogged I e ⊎ Contains more e) [
    | inl here ↦ elim (Contains-append_cases es more e (subst (λ (l : List Entry). Contains l e) grows here)) as (λ _. IsLogged I e ⊎ Contains more e) [
      | inl old ↦ inl (logged_here I name es e kind has old)
      | inr new ↦ inr new
    ]
    | inr there ↦ inl (elsewhere_logged I name e (elsewhere_kept name J I back e there))
  ]

  logged_after : (e : Entry) → IsLogged I e ⊎ Contains more e → IsLogged J e
  logged_after e (inl h) = elim (logged_cases I name es has e h) as (λ _. IsLogged J e) [
    | inl here ↦ logged_here J name after e kind now (subst (λ (l : List Entry). Contains l e) (sym grows) (Contains-append_left es more e here))
    | inr there ↦ elsewhere_logged J name e (elsewhere_kept name I J same e there)
  ]
  logged_after e (inr h) = logged_here J name after e kind now (subst (λ (l : List Entry). Contains l e) (sym grows) (Contains-append_right es more e h))

  -- one file of entries grew, by entries that may stand beside the others
  pub grown_agreeing : IsFit I → Agrees I more → Grown I J more
  grown_agreeing fit agrees = record {
    fit = record {
      logs = λ n bytes holds there. elim (name_cases n name) as (λ _. (entries : List Entry) × IsLogFile J n entries) [
        | inl at ↦ subst (λ (m : Name). (entries : List Entry) × IsLogFile J m entries) (sym at) (this_file (subst (λ (m : Name). get J m ≡ Some bytes) at there))
        | inr apart ↦ let f = fit.logs n bytes holds (back n apart ∙ there) in (f.0, file_kept name I J same n f.0 apart f.1)
      ];
      stores = λ n bytes store there gate. let f = fit.stores n bytes store (sym (same_stores name I J kind same n store) ∙ there) gate in (f.0, store_kept I J (same_stores name I J kind same) n.region n f.0 f.1);
      agree = λ d e hd he region number. agree d e (logged_before d hd) (logged_before e he) region number;
    };
    logged = λ e. (logged_before e, logged_after e);
    counting = λ r n s. (counts_kept J I (stores_back I J (same_stores name I J kind same)) r n s, counts_kept I J (same_stores name I J kind same) r n s);
  }
    where
      this_file : {bytes : List ℕ} → get J name ≡ Some bytes → (entries : List Entry) × IsLogFile J name entries
      this_file {bytes} there = elim now as (λ _. (entries : List Entry) × IsLogFile J name entries) [
        | inl text ↦ (after, text_file J name after text.0 kind text.1)
        | inr none ↦ absurd (none_some (get J name) bytes none.0 there)
      ]

      agree : (d e : Entry) → IsLogged I d ⊎ Contains more d → IsLogged I e ⊎ Contains more e → d.region ≡ e.region → d.number ≡ e.number → d ≡ e
      agree d e (inl hd) (inl he) region number = fit.agree d e hd he region number
      agree d e (inl hd) (inr he) region number = agrees.mixed d e hd he region number
      agree d e (inr hd) (inl he) region number = sym (agrees.mixed e d he hd (sym region) (sym number))
      agree d e (inr hd) (inr he) region number = agrees.inner d e hd he region number

  -- one file of entries grew, by new ones
  pub grown : IsFit I → IsFresh I more → Grown I J more
  grown fit fresh = grown_agreeing fit (record { mixed = λ d e hd he region number. absurd (fresh.apart d e hd he region number); inner = fresh.agree })

-- the same stores count
pub counts_on : (I J : Files) (more : List Entry) → Grown I J more → Counts I J
counts_on I J more g r n s c = (g.counting r n s).1 c

pub counted_before : (I J : Files) (more : List Entry) → Grown I J more → Counts J I
counted_before I J more g r n s c = (g.counting r n s).0 c

-- files that log more recover to more
pub recovers_with : (I J : Files) (more : List Entry) → Grown I J more → IsFresh I more → RecoversWith I more J
recovers_with I K more g fresh r v p = (forth, back)
  where
    forth : IsRecovered K r v p → IsRecovered I r v p ⊎ PutBy more r v p
    forth (inl stored) = inl (inl (stored_by K I (counted_before I K more g) (counts_on I K more g) r v p stored))
    forth (inr u) = elim ((g.logged u.entry).0 u.logged) as (λ _. IsRecovered I r v p ⊎ PutBy more r v p) [
      | inl old ↦ inl (inr (record { entry = u.entry; logged = old; region = u.region; above = λ n f. u.above n (flushes_by I K (counts_on I K more g) r v.key.family n f); puts = u.puts }))
      | inr new ↦ inr (u.entry, new, u.region, u.puts)
    ]

    back : IsRecovered I r v p ⊎ PutBy more r v p → IsRecovered K r v p
    back (inl (inl stored)) = inl (stored_by I K (counts_on I K more g) (counted_before I K more g) r v p stored)
    back (inl (inr u)) = inr (record { entry = u.entry; logged = (g.logged u.entry).1 (inl u.logged); region = u.region; above = λ n f. u.above n (flushes_by K I (counted_before I K more g) r v.key.family n f); puts = u.puts })
    back (inr (e, member, region, puts)) = inr (record {
      entry = e;
      logged = (g.logged e).1 (inr member);
      region = region;
      above = λ n f. fresh.above e v.key.family n member (subst (λ (k : ℕ). FlushesTo I k v.key.family n) (sym region) (flushes_by K I (counted_before I K more g) r v.key.family n f));
      puts = puts;
    })
