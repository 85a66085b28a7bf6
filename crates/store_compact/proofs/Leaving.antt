-- How many of the region's store files are gone.
use Rattle.std.proofs.Common.{◌≡◌, ◌≢◌, ◌⊎◌, inl, inr, ℕ, ◌+◌, ◌<◌, ◌≤◌, List, [], ◌∷◌, length, take, get_or, Contains, Option, Some, None, is_some, false, refl, sym, ap, ◌∙◌, subst, arith}
use Rattle.std.specs.Prelude.{Result, AllPairs}
use Rattle.std.specs.declared.cmp.Ordering.TheVariants.{Less}
use Rattle.std.proofs.lemmas.List.{take_more, take_all}
use Rattle.std.proofs.lemmas.List.Elements.{Contains-append_left, Contains-push, Contains-push_cases, Contains-get_or}
use Rattle.log_model.specs.declared.name.Name.{Name}
use Rattle.log_model.specs.declared.name.NameKind.{NameKind}
use Rattle.log_model.specs.declared.name.NameKind.TheVariants as kinds
use Rattle.log_model.specs.Files.{Files, content, name_cmp, IsAbsent, Same, SameBut}
use Rattle.disk_images.specs.Crash.{DiskView, IsImageNow, Elapses, Follows, Throughout}
use Rattle.disk_images.specs.Calls.{Removes, RemovedIn, Looks}
use Rattle.disk_images.proofs.Moments.{at_once, goes_on}
use Rattle.recovery_laws.proofs.Names.{name_cases, store_apart}
use Rattle.region_replay.proofs.Lists.{apart_from}
use Rattle.region_replay.proofs.RegionsInOrder.{apart_names}
use Rattle.store_compact.specs.Plan.{IsReplaced, IsReplacing}

store_or_not : (k : NameKind) → (k ≡ kinds.Store) ⊎ (k ≢ kinds.Store)
store_or_not kinds.Log = inr (λ is. absurd cc)
store_or_not kinds.Old = inr (λ is. absurd cc)
store_or_not kinds.Store = inl refl
store_or_not kinds.Edits = inr (λ is. absurd cc)

-- one of them is removed where it is a store; else nothing is done
pub record Step (this : Name) (v w : DiskView) : Type 0 where
  pub others : SameBut this v.files w.files
  pub still : this.kind ≢ kinds.Store → content w.files this ≡ content v.files this
  pub formerly : (n m : Name) → w.formerly n m → v.formerly n m
  pub time : Elapses 1 v w
  pub follows : Follows (λ I J. Same I J ⊎ ((this.kind ≡ kinds.Store) × RemovedIn this (v.formerly this) I J)) v w

removed : {T E : Type 0} {result : Result T E} (this : Name) (v w : DiskView) → this.kind ≡ kinds.Store → Removes this result v w → Step this v w
removed this v w store r = record {
  others = r.others;
  still = λ other. absurd (other store);
  formerly = r.formerly;
  time = r.time;
  follows = λ J now. (
      let f = r.crash J now in
      (f.0, f.1, elim f.2 as (λ _. Same f.0 J ⊎ ((this.kind ≡ kinds.Store) × RemovedIn this (v.formerly this) f.0 J)) [ inl same ↦ inl same | inr gone ↦ inr (store, gone) ]));
}

not_removed : (this : Name) (v : DiskView) → Step this v v
not_removed this v = record {
  others = λ m other. refl;
  still = λ other. refl;
  formerly = λ n m h. h;
  time = record { later = omega arith; by_most = omega arith; past = λ t J le h. h; kept = λ t J le h. h };
  follows = λ J now. (J, now, inl (λ m. refl));
}

pub one_step : {D T E : Type 0} {result : Result T E} (view : D → DiskView) (this : Name) (old new : D) → (this.kind ≡ kinds.Store → Removes this result (view old) (view new)) → (this.kind ≢ kinds.Store → new ≡ old) → Step this (view old) (view new)
one_step view this old new store other = elim (store_or_not this.kind) as (λ _. Step this (view old) (view new)) [
  | inl is ↦ removed this (view old) (view new) is (store is)
  | inr not ↦ subst (λ d. Step this (view old) (view d)) (sym (other not)) (not_removed this (view old))
]

-- an image in which the store stands whole is so after such a step
image_on : (found : Files) (name : Name) (text : List ℕ) (this : Name) (v : DiskView) (I J : Files) → ((n m : Name) → ¬ v.formerly n m) → this.region ≡ name.region → this ≢ name
    → IsReplaced found name text I → Same I J ⊎ ((this.kind ≡ kinds.Store) × RemovedIn this (v.formerly this) I J) → IsReplaced found name text J
image_on found name text this v I J unmoved region apart is (inl same) = record {
  no_logs = λ m holds. same m ∙ is.no_logs m holds;
  new = same name ∙ is.new;
  others = λ m store other. same m ∙ is.others m store other;
  own = λ m store of other. elim (is.own m store of other) as (λ _. (content J m ≡ content found m) ⊎ (content J m ≡ None)) [ inl here ↦ inl (same m ∙ here) | inr gone ↦ inr (same m ∙ gone) ];
}
image_on found name text this v I J unmoved region apart is (inr (store_kind, gone)) = record {
  no_logs = λ m holds. still m (λ at. store_apart this m store_kind holds (sym at)) ∙ is.no_logs m holds;
  new = still name (λ at. apart (sym at)) ∙ is.new;
  others = λ m store other. still m (λ at. other (ap (λ (n : Name). n.region) at ∙ region)) ∙ is.others m store other;
  own = λ m store of other. elim (name_cases m this) as (λ _. (content J m ≡ content found m) ⊎ (content J m ≡ None)) [
    | inl at ↦ inr (ap (λ (n : Name). content J n) at ∙ gone.here)
    | inr off ↦ elim (is.own m store of other) as (λ _. (content J m ≡ content found m) ⊎ (content J m ≡ None)) [ inl here ↦ inl (still m off ∙ here) | inr none ↦ inr (still m off ∙ none) ]
  ];
}
  where
    still : (m : Name) → m ≢ this → content J m ≡ content I m
    still m off = gone.elsewhere m off (unmoved this m)

-- these names are of the region's other files
abbrev pub AreOthers : Name → List Name → Type 0
AreOthers name names = (m : Name) → Contains names m → (m.region ≡ name.region) × (m ≢ name)

abbrev pub IsElse : List Name → Name → Type 0
IsElse names m = (n : Name) → Contains names n → m ≢ n

pub record Going (told : Type 0) (first now : DiskView) (names : List Name) (count : ℕ) : Type 0 where
  pub others : told → (m : Name) → (Contains names m → m.kind ≢ kinds.Store) → content now.files m ≡ content first.files m
  pub later : told → (m : Name) → IsElse (take count names) m → content now.files m ≡ content first.files m
  pub left : told → (m : Name) → Contains (take count names) m → m.kind ≡ kinds.Store → IsAbsent now.files m
  pub held : told → (found : Files) (name : Name) (text : List ℕ) → IsReplacing found name text first → AreOthers name names → IsReplacing found name text now × Throughout (IsReplaced found name text) count first now

none_of : {A : Type 0} (xs : List A) (x : A) → Contains (take 0 xs) x → ⊥
none_of [] x h = omega (arith, h.1)
none_of (y ∷ ys) x h = omega (arith, h.1)

pub none_gone : (told : Type 0) (v : DiskView) (names : List Name) → Going told v v names 0
none_gone told v names = record {
  others = λ is_told m other. refl;
  later = λ is_told m other. refl;
  left = λ is_told m has store. absurd (none_of names m has);
  held = λ is_told found name text is others. (is, at_once (IsReplaced found name text) v is.images);
}

module _ (told : Type 0) (first v w : DiskView) (names : List Name) (count : ℕ) (x : Name) (there : count < length names) (rise : told → AllPairs (λ a b. name_cmp a b ≡ Less) names) (so_far : Going told first v names count) where
  abbrev pub this : Name
  this = get_or names count x

  pub among : Contains names this
  among = Contains-get_or names count x there

  apart : told → (m : Name) → Contains (take count names) m → this ≢ m
  apart is_told m has = apart_from names (apart_names names (rise is_told)) count x m there has

  pub same_now : told → content v.files this ≡ content first.files this
  same_now is_told = so_far.later is_told this (apart is_told)

  module _ (step : told → Step this v w) where
    pub images_on : told → (found : Files) (name : Name) (text : List ℕ) → IsReplacing found name text first → AreOthers name names → (J : Files) → IsImageNow w J → IsReplaced found name text J
    images_on is_told found name text is others J now =
        let h = (so_far.held is_told found name text is others).0 in
        let o = others this among in
        let f = (step is_told).follows J now in
        image_on found name text this v f.0 J h.unmoved o.0 o.1 (h.images f.0 f.1) f.2

    pub moments_on : told → (found : Files) (name : Name) (text : List ℕ) → IsReplacing found name text first → AreOthers name names → Throughout (IsReplaced found name text) (count + 1) first w
    moments_on is_told found name text is others =
        let h = so_far.held is_told found name text is others in
        goes_on (IsReplaced found name text) count first v w h.1 (step is_told).time (images_on is_told found name text is others)

    pub others_on : told → (m : Name) → (Contains names m → m.kind ≢ kinds.Store) → content w.files m ≡ content first.files m
    others_on is_told m other = elim (name_cases m this) as (λ _. content w.files m ≡ content first.files m) [
      | inl at ↦ ap (λ (n : Name). content w.files n) at ∙ (step is_told).still (λ store. other (subst (λ (n : Name). Contains names n) (sym at) among) (ap (λ (n : Name). n.kind) at ∙ store)) ∙ sym (ap (λ (n : Name). content v.files n) at) ∙ so_far.others is_told m other
      | inr off ↦ (step is_told).others m off ∙ so_far.others is_told m other
    ]

    pub one_gone : (told → this.kind ≡ kinds.Store → IsAbsent w.files this) → Going told first w names (count + 1)
    one_gone done = record {
      others = others_on;
      later = λ is_told m other.
          (step is_told).others m (other this (subst (λ (l : List Name). Contains l this) (sym (take_more names count x there)) (Contains-push (take count names) this)))
          ∙ so_far.later is_told m (λ n has. other n (subst (λ (l : List Name). Contains l n) (sym (take_more names count x there)) (Contains-append_left (take count names) (this ∷ []) n has)));
      left = λ is_told m has store. elim (Contains-push_cases (take count names) this m (subst (λ (l : List Name). Contains l m) (take_more names count x there) has)) as (λ _. IsAbsent w.files m) [
        | inl before ↦ (step is_told).others m (λ is. apart is_told m before (sym is)) ∙ so_far.left is_told m before store
        | inr is ↦ subst (λ (n : Name). IsAbsent w.files n) is (done is_told (ap (λ (n : Name). n.kind) is ∙ store))
      ];
      held = λ is_told found name text is others. (
        record {
          images = images_on is_told found name text is others;
          unmoved = λ n m former. (so_far.held is_told found name text is others).0.unmoved n m ((step is_told).formerly n m former);
        },
        moments_on is_told found name text is others,
      );
    }

pub all_taken : (names : List Name) (count : ℕ) (m : Name) → length names ≤ count → Contains names m → Contains (take count names) m
all_taken names count m le has = subst (λ (l : List Name). Contains l m) (sym (take_all count names le)) has

-- ---- the names are settled

pub settled_moments : (found : Files) (name : Name) (text : List ℕ) (v w : DiskView) (n : ℕ) (u : DiskView) → Throughout (IsReplaced found name text) n u v → ((J : Files) → IsImageNow v J → IsReplaced found name text J) → Looks v w → Throughout (IsReplaced found name text) (n + 1) u w
settled_moments found name text v w n u so_far now looks = goes_on (IsReplaced found name text) n u v w so_far looks.time (λ J is. now J (looks.crash J is))

none_there : (o : Option (List ℕ)) → is_some o ≡ false → o ≡ None
none_there None is = refl
none_there (Some c) is = absurd cc

pub gone_everywhere : (v w : DiskView) (m : Name) → IsAbsent v.files m → w.files ≡ v.files → ((J : Files) (k : Name) → IsImageNow w J → is_some (content J k) ≡ is_some (content w.files k)) → (J : Files) → IsImageNow w J → IsAbsent J m
gone_everywhere v w m none same pinned J now = none_there (content J m) (pinned J m now ∙ ap is_some (ap (λ (f : Files). content f m) same ∙ none))
