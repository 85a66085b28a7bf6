-- The first two files that have entries of one region and number that differ, told from the entries in order.
use Rattle.std.proofs.Common.{◌≡◌, ◌≢◌, ◌⊎◌, inl, inr, ℕ, ◌<◌, List, [], length, get_or, Contains, refl, sym, ap, ◌∙◌, subst, arith}
use Rattle.std.specs.FinMap.{keys}
use Rattle.std.specs.declared.cmp.Ordering.{Ordering}
use Rattle.std.specs.declared.cmp.Ordering.TheVariants.{Less, Equal, Greater}
use Rattle.std.specs.Ordering.{nat_cmp, ordering_then, ordering_reverse}
use Rattle.std.proofs.lemmas.Bool.{cases_lt}
use Rattle.std.proofs.lemmas.List.Elements.{at_from_Contains, Contains-get_or}
use Rattle.log_model.specs.declared.name.Name.{Name}
use Rattle.log_model.specs.declared.name.NameKind.TheVariants as kinds
use Rattle.log_model.specs.declared.damage.Damage.{Damage}
use Rattle.log_model.specs.Entry.{Entry}
use Rattle.log_model.specs.Files.{Files, name_cmp, IsLogFile, IsLogged, IsSound}
use Rattle.log_model.specs.Damage.{Disagreement, IsDisagreement, IsFirstDisagreement, IsDamage, disagreement_cmp}
use Rattle.log_model.proofs.DamageLaws.{no_disagreement}
use Rattle.log_model.proofs.NameLaws.{name_cmp_total}
use Rattle.disk_images.proofs.Settled.{among_names}
use Rattle.found_files.specs.declared.found.FoundEntry.{FoundEntry}
use Rattle.found_files.specs.declared.found.FoundStore.{FoundStore}
use Rattle.found_files.specs.Found.{place_in, AreRead}
use Rattle.found_files.specs.Sorted.{IsOfSame, IsUpTo, AreOrdered, AgreeBelow, AllAgree, IsFirstPair}
use Rattle.found_files.proofs.Ordered.{rank_cases}
use Rattle.found_files.proofs.Agreement.{region_up, number_up}
use Rattle.found_files.proofs.Files.{one_list}
use Rattle.found_files.proofs.NameOrder.{there}
use Rattle.found_files.proofs.Whole.{read_whole}

pub some_found : FoundEntry
some_found = record { name = record { kind = kinds.Log; region = 0; number = 0 }; entry = record { region = 0; number = 0; time = 0; batch = record { table = []; cells = [] } } }

-- a name at or before one that is before a third is before it
name_before : (a b c : Name) → name_cmp b a ≢ Less → name_cmp b c ≡ Less → name_cmp a c ≡ Less
name_before a b c le lt = go (name_cmp a b) refl
  where
    go : (o : Ordering) → name_cmp a b ≡ o → name_cmp a c ≡ Less
    go Less is = name_cmp_total.trans a b c is lt
    go Equal is = name_cmp_total.congr a b c is ∙ lt
    go Greater is = absurd (le (name_cmp_total.antisymm b a ∙ ap ordering_reverse is))

not_up : (x y : FoundEntry) → IsOfSame x y → name_cmp y.name x.name ≡ Less → ¬ IsUpTo x y
not_up x y same lt (inl less) = omega (arith, less, same.0)
not_up x y same lt (inr (region, inl less)) = omega (arith, less, same.1)
not_up x y same lt (inr (region, inr (number, not))) = not lt

module _ (xs : List FoundEntry) (ordered : AreOrdered xs) (at : ℕ) (within : at < length xs) (agree : AgreeBelow xs at) (x y : FoundEntry) (in_x : Contains xs x) (in_y : Contains xs y) (same : IsOfSame x y) where
  before_at : (z : FoundEntry) → Contains xs z → ¬ IsUpTo (get_or xs at some_found) z → (k : ℕ) × (k < at) × ((d : FoundEntry) → get_or xs k d ≡ z)
  before_at z has not =
      let p = at_from_Contains xs z has in
      elim (cases_lt p.0 at) as (λ _. (k : ℕ) × (k < at) × ((d : FoundEntry) → get_or xs k d ≡ z)) [
        | inl early ↦ (p.0, early, p.2)
        | inr late ↦ absurd (not (subst (λ (w : FoundEntry). IsUpTo (get_or xs at some_found) w) (p.2 some_found) (ordered at p.0 some_found late p.1)))
      ]

  -- two that stand before this place agree
  pub agree_before : ¬ IsUpTo (get_or xs at some_found) x → ¬ IsUpTo (get_or xs at some_found) y → x.entry ≡ y.entry
  agree_before not_x not_y =
      let p = before_at x in_x not_x in
      let q = before_at y in_y not_y in
      let here : (get_or xs p.0 some_found).entry ≡ (get_or xs q.0 some_found).entry =
      agree p.0 q.0 some_found p.1 q.1 (
        ap (λ (w : FoundEntry). w.entry.region) (p.2 some_found) ∙ same.0 ∙ sym (ap (λ (w : FoundEntry). w.entry.region) (q.2 some_found)),
        ap (λ (w : FoundEntry). w.entry.number) (p.2 some_found) ∙ same.1 ∙ sym (ap (λ (w : FoundEntry). w.entry.number) (q.2 some_found)),
      ) in
      sym (ap (λ (w : FoundEntry). w.entry) (p.2 some_found)) ∙ here ∙ ap (λ (w : FoundEntry). w.entry) (q.2 some_found)

lower_not_up : (z x : FoundEntry) → (x.entry.region < z.entry.region) ⊎ ((x.entry.region ≡ z.entry.region) × (x.entry.number < z.entry.number)) → ¬ IsUpTo z x
lower_not_up z x (inl less) up = omega (arith, less, region_up z x up)
lower_not_up z x (inr (region, less)) up = omega (arith, less, number_up z x up (sym region))

-- the files with these names, whose entries were read
module _ (Own : Name → Type 0) (files : Files) (es : List FoundEntry) (among : (name : Name) (l : List Entry) (e : Entry) → Own name → IsLogFile files name l → Contains l e → Contains es (place_in name e)) where
  pub agree_among : AllAgree es → (d e : Entry) → (hd : IsLogged files d) → (he : IsLogged files e) → Own hd.name → Own he.name → d.region ≡ e.region → d.number ≡ e.number → d ≡ e
  agree_among agree d e hd he own_d own_e region number =
      let p = at_from_Contains es (place_in hd.name d) (among hd.name hd.entries d own_d hd.file hd.member) in
      let q = at_from_Contains es (place_in he.name e) (among he.name he.entries e own_e he.file he.member) in
      let here : (get_or es p.0 some_found).entry ≡ (get_or es q.0 some_found).entry =
      agree p.0 q.0 some_found p.1 q.1 (
        ap (λ (w : FoundEntry). w.entry.region) (p.2 some_found) ∙ region ∙ sym (ap (λ (w : FoundEntry). w.entry.region) (q.2 some_found)),
        ap (λ (w : FoundEntry). w.entry.number) (p.2 some_found) ∙ number ∙ sym (ap (λ (w : FoundEntry). w.entry.number) (q.2 some_found)),
      ) in
      sym (ap (λ (w : FoundEntry). w.entry) (p.2 some_found)) ∙ here ∙ ap (λ (w : FoundEntry). w.entry) (q.2 some_found)

  module _ (from : (x : FoundEntry) → Contains es x → (l : List Entry) × IsLogFile files x.name l × Contains l x.entry) (ordered : AreOrdered es) (damage : Damage) (pair : IsFirstPair es damage) where
    abbrev pub f : FoundEntry
    f = get_or es pair.first some_found

    abbrev pub s : FoundEntry
    s = get_or es pair.at some_found

    abbrev pub told_as : Disagreement
    told_as = record { region = f.entry.region; number = f.entry.number; first = f.name; second = s.name }

    pub in_f : Contains es f
    in_f = Contains-get_or es pair.first some_found (omega (arith, pair.before, pair.within))

    pub in_s : Contains es s
    in_s = Contains-get_or es pair.at some_found pair.within

    same : IsOfSame f s
    same = (pair.differ some_found).0

    pub here : IsDisagreement files told_as
    here =
        let of_f = from f in_f in
        let of_s = from s in_s in record {
          order = λ lt. not_up f s same lt (ordered pair.first pair.at some_found (omega (arith, pair.before)) pair.within);
          d = f.entry;
          e = s.entry;
          ds = of_f.0;
          es = of_s.0;
          in_first = (of_f.1, of_f.2);
          in_second = (of_s.1, of_s.2);
          regions = (refl, sym same.0);
          numbers = (refl, sym same.1);
          differ = (pair.differ some_found).1;
        }

    module _ (y : Disagreement) (h : IsDisagreement files y) (own_d : Own y.first) (own_e : Own y.second) where
      abbrev yd : FoundEntry
      yd = place_in y.first h.d

      abbrev ye : FoundEntry
      ye = place_in y.second h.e

      in_d : Contains es yd
      in_d = among y.first h.ds h.d own_d h.in_first.0 h.in_first.1

      in_e : Contains es ye
      in_e = among y.second h.es h.e own_e h.in_second.0 h.in_second.1

      one_key : IsOfSame yd ye
      one_key = (h.regions.0 ∙ sym h.regions.1, h.numbers.0 ∙ sym h.numbers.1)

      -- of a lower region or number
      lower : (y.region < f.entry.region) ⊎ ((y.region ≡ f.entry.region) × (y.number < f.entry.number)) → ⊥
      lower less = h.differ (agree_before es ordered pair.at pair.within pair.agree yd ye in_d in_e one_key (lower_not_up s yd (under h.d h.regions.0 h.numbers.0)) (lower_not_up s ye (under h.e h.regions.1 h.numbers.1)))
        where
          under : (e : Entry) → e.region ≡ y.region → e.number ≡ y.number → (e.region < s.entry.region) ⊎ ((e.region ≡ s.entry.region) × (e.number < s.entry.number))
          under e region number = elim less as (λ _. (e.region < s.entry.region) ⊎ ((e.region ≡ s.entry.region) × (e.number < s.entry.number))) [
            | inl lt ↦ inl (omega (arith, lt, region, same.0))
            | inr (is, lt) ↦ inr (region ∙ is ∙ same.0, omega (arith, lt, number, same.1))
          ]

      -- of the same, with an earlier first name
      first_name : y.region ≡ f.entry.region → y.number ≡ f.entry.number → name_cmp y.first f.name ≡ Less → ⊥
      first_name region number lt =
          let p = at_from_Contains es yd in_d in
          let of_f : IsOfSame (get_or es p.0 some_found) f = (ap (λ (w : FoundEntry). w.entry.region) (p.2 some_found) ∙ h.regions.0 ∙ region, ap (λ (w : FoundEntry). w.entry.number) (p.2 some_found) ∙ h.numbers.0 ∙ number) in
          elim (cases_lt p.0 pair.first) as (λ _. ⊥) [
            | inl early ↦ pair.none_before p.0 some_found early of_f
            | inr late ↦ not_up f yd (sym region ∙ sym h.regions.0, sym number ∙ sym h.numbers.0) lt (subst (λ (w : FoundEntry). IsUpTo f w) (p.2 some_found) (ordered pair.first p.0 some_found late p.1))
          ]

      -- of the same, with the same first name and an earlier second one
      second_name : y.region ≡ f.entry.region → y.number ≡ f.entry.number → name_cmp y.second s.name ≡ Less → ⊥
      second_name region number lt =
          h.differ (agree_before es ordered pair.at pair.within pair.agree yd ye in_d in_e one_key
          (not_up s yd (sym same.0 ∙ sym region ∙ sym h.regions.0, sym same.1 ∙ sym number ∙ sym h.numbers.0) (name_before y.first y.second s.name h.order lt))
          (not_up s ye (sym same.0 ∙ sym region ∙ sym h.regions.1, sym same.1 ∙ sym number ∙ sym h.numbers.1) lt))

      names : (o : Ordering) → name_cmp y.first f.name ≡ o → y.region ≡ f.entry.region → y.number ≡ f.entry.number → ordering_then o (name_cmp y.second s.name) ≡ Less → ⊥
      names Less is region number lt = first_name region number is
      names Equal is region number lt = second_name region number lt
      names Greater is region number lt = absurd (cc lt)

      pub none_lower : disagreement_cmp y told_as ≡ Less → ⊥
      none_lower lt = elim (rank_cases y.region f.entry.region) as (λ _. ⊥) [
        | inl less ↦ lower (inl less.0)
        | inr (inl one) ↦
            let next : ordering_then (nat_cmp y.number f.entry.number) (ordering_then (name_cmp y.first f.name) (name_cmp y.second s.name)) ≡ Less =
            sym (ap (λ (o : Ordering). ordering_then o (ordering_then (nat_cmp y.number f.entry.number) (ordering_then (name_cmp y.first f.name) (name_cmp y.second s.name)))) one.1) ∙ lt in
            elim (rank_cases y.number f.entry.number) as (λ _. ⊥) [
              | inl less ↦ lower (inr (one.0, less.0))
              | inr (inl two) ↦ names (name_cmp y.first f.name) refl one.0 two.0 (sym (ap (λ (o : Ordering). ordering_then o (ordering_then (name_cmp y.first f.name) (name_cmp y.second s.name))) two.1) ∙ next)
              | inr (inr more) ↦ absurd (cc (sym (ap (λ (o : Ordering). ordering_then o (ordering_then (name_cmp y.first f.name) (name_cmp y.second s.name))) more.1) ∙ next))
            ]
        | inr (inr more) ↦ absurd (cc (sym (ap (λ (o : Ordering). ordering_then o (ordering_then (nat_cmp y.number f.entry.number) (ordering_then (name_cmp y.first f.name) (name_cmp y.second s.name)))) more.1) ∙ lt))
      ]

module _ (told : Type 0) (is_told : told) (files : Files) (es : List FoundEntry) (ss : List FoundStore) (read : AreRead told files (keys files) (keys files) es ss) where
  abbrev Any : Name → Type 0
  Any name = Unit {0}

  -- a logged entry stands among those that were read
  among_read : (name : Name) (l : List Entry) (e : Entry) → Any name → IsLogFile files name l → Contains l e → Contains es (place_in name e)
  among_read name l e any file member =
      let r = read.logs is_told name (among_names files name (λ none. absurd (cc (sym none ∙ file.there)))) file.kind in
      r.2 e (subst (λ (k : List Entry). Contains k e) (one_list files name l r.0 file r.1) member)

  pub all_agree : AllAgree es → (d e : Entry) → IsLogged files d → IsLogged files e → d.region ≡ e.region → d.number ≡ e.number → d ≡ e
  all_agree agree d e hd he region number = agree_among Any files es among_read agree d e hd he tt tt region number

  module _ (ordered : AreOrdered es) (damage : Damage) (pair : IsFirstPair es damage) where
    is_first : IsFirstDisagreement files (told_as Any files es among_read (read.from_logs is_told) ordered damage pair)
    is_first = record {
      whole = λ name at hurt. read_whole told files (keys files) es ss is_told read name at (among_names files name (there files name at hurt)) hurt;
      here = here Any files es among_read (read.from_logs is_told) ordered damage pair;
      first = λ y h. none_lower Any files es among_read (read.from_logs is_told) ordered damage pair y h tt tt;
    }

    pub pair_unsound : ¬ IsSound files
    pair_unsound sound = no_disagreement files (told_as Any files es among_read (read.from_logs is_told) ordered damage pair) sound is_first.here

    pub pair_told : IsDamage files damage
    pair_told = subst (λ (d : Damage). IsDamage files d) (sym (pair.damage_is some_found)) is_first
