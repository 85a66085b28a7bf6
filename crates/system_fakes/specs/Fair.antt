-- What holds of every system holds along every history whose calls met their conditions.
use Rattle.std.proofs.Common.{◌≡◌, ◌≢◌, ◌⊎◌, inl, inr, ⊎_elim, ℕ, ◌+◌, ◌≤◌, ◌<◌, List, [], ◌∷◌, ◌++◌, length, true, false, Option, Some, None, is_some, get_or, set, take, drop, ◌-◌, zero, suc, refl, sym, ◌∙◌, ap, subst, arith, length-append, length-take, length-drop, append_assoc}
use Rattle.std.specs.Prelude.{Contains}
use Rattle.std.proofs.lemmas.List.{take_at, drop_at, get_or-set_same, get_or-set_other, length-set}
use Rattle.std.proofs.lemmas.List.Elements.{Contains-push_cases}
use Rattle.std.specs.FinMap as map
use Rattle.std.specs.FinMap.{get, insert, remove}
use Rattle.log_model.specs.declared.name.Name.{Name}
use Rattle.log_model.specs.Files.{IsName, name_cmp}
use Rattle.disk_images.specs.Crash.{overwritten, Torn}
use Rattle.folder_system.specs.System.{Folder, Bytes, IsTrueSystem}
use Rattle.folder_system.specs.Calls.{Without}
use Rattle.system_fakes.specs.declared.op.Op.{Op}
use Rattle.system_fakes.specs.declared.op.Op.TheVariants.{Create, Begin, Write, Tear, Doubt, Sync, Move, Unlink, Place, SyncFolder, Tick}
use Rattle.system_fakes.specs.Order.{name_cases, insert_here, insert_other, remove_here, remove_other}
use Rattle.system_fakes.specs.Held.{Held, bytes_of, written}
use Rattle.system_fakes.specs.History.{State, IsNow, within, ticked, or_with, or_moved, or_without, torn_in, pinned_in, step, after, quiet, Meets, MeetAll, view_of_state}

-- names of a store, one for each inode, and each inode was given
pub record IsPlain (n : ℕ) (D : Folder) : Type 0 where
  pub named : (m : Name) (i : ℕ) → get D m ≡ Some i → IsName m
  pub single : (m q : Name) (i : ℕ) → get D m ≡ Some i → get D q ≡ Some i → m ≡ q
  pub given : (m : Name) (i : ℕ) → get D m ≡ Some i → i < n

pub record IsFair (s : State) : Type 0 where
  pub folder_now : s.folders s.held.folder
  pub bytes_now : (i : ℕ) → s.texts i (bytes_of s.held i)
  pub inside : (D : Folder) (B : Bytes) → IsNow s.folders s.texts D B → s.image s.clock D B
  pub plain : (D : Folder) → s.folders D → IsPlain (length s.held.files) D
  pub images_given : (D : Folder) (B : Bytes) (m : Name) (i : ℕ) → s.image s.clock D B → get D m ≡ Some i → i < length s.held.files
  pub parts_single : (m q : Name) (i : ℕ) → get s.held.parts m ≡ Some i → get s.held.parts q ≡ Some i → m ≡ q
  pub parts_given : (m : Name) (i : ℕ) → get s.held.parts m ≡ Some i → i < length s.held.files
  -- no image has the inode of a copy that waits
  pub apart : (D : Folder) (m q : Name) (i : ℕ) → s.folders D → get s.held.parts m ≡ Some i → get D q ≢ Some i
  pub doubts_given : (i : ℕ) → Contains s.held.doubtful i → i < length s.held.files
  pub unmade : (i : ℕ) (c : List ℕ) → length s.held.files ≤ i → s.texts i c → c ≡ []

pub nat_cases : (i j : ℕ) → (i ≡ j) ⊎ (i ≢ j)
nat_cases i j = search arith

pub insert_inv : (D : Folder) (k m : Name) (i x : ℕ) → get (insert D k i) m ≡ Some x → ((m ≡ k) × (x ≡ i)) ⊎ ((m ≢ k) × (get D m ≡ Some x))
insert_inv D k m i x leads = elim (name_cases m k) as (λ _. ((m ≡ k) × (x ≡ i)) ⊎ ((m ≢ k) × (get D m ≡ Some x))) [
  | inl same ↦ inl (same, let here = ap (get (insert D k i)) same ∙ insert_here D k i in cc (leads, here))
  | inr other ↦ inr (other, sym (insert_other D k m i other) ∙ leads)
]

pub remove_inv : (D : Folder) (k m : Name) (x : ℕ) → get (remove D k) m ≡ Some x → (m ≢ k) × (get D m ≡ Some x)
remove_inv D k m x leads = elim (name_cases m k) as (λ _. (m ≢ k) × (get D m ≡ Some x)) [
  | inl same ↦ let none = ap (get (remove D k)) same ∙ remove_here D k in absurd (cc (leads, none))
  | inr other ↦ (other, sym (remove_other D k m other) ∙ leads)
]

pub some_of : (o : Option ℕ) → is_some o ≡ true → (i : ℕ) × (o ≡ Some i)
some_of None there = absurd (cc there)
some_of (Some i) there = (i, refl)

left_alone : (i x : ℕ) (e d : Option ℕ) → (e ≡ Some i → d ≡ None) → (e ≢ Some i → d ≡ e) → d ≡ Some x → e ≡ Some x
left_alone i x None d left others leads = sym (others (λ is. absurd (cc is))) ∙ leads
left_alone i x (Some k) d left others leads = elim (nat_cases k i) as (λ _. Some k ≡ Some x) [
  | inl same ↦ let none = left (ap Some same) in absurd (cc (none, leads))
  | inr other ↦ sym (others (λ is. other (cc is))) ∙ leads
]

-- what stands without an inode stood before
pub without_inv : (i : ℕ) (E D : Folder) (m : Name) (x : ℕ) → Without i E D → get D m ≡ Some x → get E m ≡ Some x
without_inv i E D m x without leads = left_alone i x (get E m) (get D m) (without.left m) (without.others m) leads

pub plain_more : (n k : ℕ) (D : Folder) → n ≤ k → IsPlain n D → IsPlain k D
plain_more n k D le plain = record { named = plain.named; single = plain.single; given = λ m i leads. omega (arith, le, plain.given m i leads) }

pub plain_same : (n : ℕ) (D E : Folder) → D ≡ E → IsPlain n E → IsPlain n D
plain_same n D E same plain = subst (IsPlain n) (sym same) plain

pub plain_insert : (n : ℕ) (E : Folder) (name : Name) (i : ℕ) → IsName name → i < n → ((m : Name) → get E m ≢ Some i) → IsPlain n E → IsPlain n (insert E name i)
plain_insert n E name i is_name lt free plain = record {
  named = λ m x leads. elim (insert_inv E name m i x leads) as (λ _. IsName m) [ inl here ↦ subst IsName (sym here.0) is_name | inr there ↦ plain.named m x there.1 ];
  single = λ m q x first second. elim (insert_inv E name m i x first) as (λ _. m ≡ q) [
    | inl here ↦ elim (insert_inv E name q i x second) as (λ _. m ≡ q) [
      | inl too ↦ here.0 ∙ sym too.0
      | inr there ↦ absurd (free q (there.1 ∙ ap Some here.1))
    ]
    | inr there ↦ elim (insert_inv E name q i x second) as (λ _. m ≡ q) [
      | inl here ↦ absurd (free m (there.1 ∙ ap Some here.1))
      | inr too ↦ plain.single m q x there.1 too.1
    ]
  ];
  given = λ m x leads. elim (insert_inv E name m i x leads) as (λ _. x < n) [ inl here ↦ subst (λ (j : ℕ). j < n) (sym here.1) lt | inr there ↦ plain.given m x there.1 ];
}

pub plain_remove : (n : ℕ) (E : Folder) (name : Name) → IsPlain n E → IsPlain n (remove E name)
plain_remove n E name plain = record {
  named = λ m x leads. plain.named m x (remove_inv E name m x leads).1;
  single = λ m q x first second. plain.single m q x (remove_inv E name m x first).1 (remove_inv E name q x second).1;
  given = λ m x leads. plain.given m x (remove_inv E name m x leads).1;
}

pub plain_moved : (n : ℕ) (E : Folder) (from to : Name) (i : ℕ) → IsName to → get E from ≡ Some i → IsPlain n E → IsPlain n (insert (remove E from) to i)
plain_moved n E from to i is_name was plain =
    plain_insert n (remove E from) to i is_name (plain.given from i was)
    (λ m leads. let is = remove_inv E from m i leads in is.0 (plain.single m from i is.1 was)) (plain_remove n E from plain)

pub plain_without : (n i : ℕ) (E D : Folder) → Without i E D → IsPlain n E → IsPlain n D
plain_without n i E D without plain = record {
  named = λ m x leads. plain.named m x (without_inv i E D m x without leads);
  single = λ m q x first second. plain.single m q x (without_inv i E D m x without first) (without_inv i E D q x without second);
  given = λ m x leads. plain.given m x (without_inv i E D m x without leads);
}

pub without_name : (n i : ℕ) (D : Folder) (name : Name) → IsPlain n D → get D name ≡ Some i → Without i D (remove D name)
without_name n i D name plain was = record {
  left = λ m leads. ap (get (remove D name)) (plain.single m name i leads was) ∙ remove_here D name;
  others = λ m not. remove_other D name m (λ same. not (ap (get D) same ∙ was));
}

pub bytes_pushed : (files : List (List ℕ)) (i : ℕ) → get_or (files ++ [] ∷ []) i [] ≡ get_or files i []
bytes_pushed [] zero = refl
bytes_pushed [] (suc i) = refl
bytes_pushed (f ∷ files) zero = refl
bytes_pushed (f ∷ files) (suc i) = bytes_pushed files i

pub bytes_beyond : (files : List (List ℕ)) (i : ℕ) → length files ≤ i → get_or files i [] ≡ []
bytes_beyond [] i le = refl
bytes_beyond (f ∷ files) zero le = absurd (omega (arith, le))
bytes_beyond (f ∷ files) (suc i) le = bytes_beyond files i (omega (arith, le))

pub torn_over : (at : ℕ) (c bytes : List ℕ) → at ≤ length c → Torn at (length bytes) c (overwritten c at bytes)
torn_over at c bytes le =
    let front : length (take at c) ≡ at = omega (arith, length-take at c, le) in
    let head : length (take at c ++ bytes) ≡ at + length bytes = omega (arith, length-append (take at c) bytes, front) in
    let size : length (overwritten c at bytes) ≡ at + length bytes + (length c - (at + length bytes)) = omega (arith, length-append (take at c ++ bytes) (drop (at + length bytes) c), head, length-drop (at + length bytes) c) in
    record {
      before = ap (λ (l : List ℕ). take at l) (append_assoc (take at c) bytes (drop (at + length bytes) c)) ∙ take_at (take at c) (bytes ++ drop (at + length bytes) c) at front;
      after = drop_at (take at c ++ bytes) (drop (at + length bytes) c) (at + length bytes) head;
      no_shorter = omega (arith, size);
      no_longer = omega (arith, size);
    }

pub written_here : (h : Held) (i at : ℕ) (b : List ℕ) → i < length h.files → bytes_of (written h i at b) i ≡ overwritten (bytes_of h i) at b
written_here h i at b lt = get_or-set_same h.files i (overwritten (bytes_of h i) at b) [] lt

pub written_other : (h : Held) (i at : ℕ) (b : List ℕ) (j : ℕ) → j ≢ i → bytes_of (written h i at b) j ≡ bytes_of h j
written_other h i at b j other = get_or-set_other h.files i j (overwritten (bytes_of h i) at b) [] other

pub written_torn : (h : Held) (i at : ℕ) (b : List ℕ) → i < length h.files → at ≤ length (bytes_of h i) → Torn at (length b) (bytes_of h i) (bytes_of (written h i at b) i)
written_torn h i at b lt le = subst (Torn at (length b) (bytes_of h i)) (sym (written_here h i at b lt)) (torn_over at (bytes_of h i) b le)

pub one_doubt : (doubts : List ℕ) (i j : ℕ) → Contains (doubts ++ i ∷ []) j → Contains doubts j ⊎ (j ≡ i)
one_doubt doubts i j is = elim (Contains-push_cases doubts i j is) as (λ _. Contains doubts j ⊎ (j ≡ i)) [
  | inl before ↦ inl before
  | inr new ↦ inr (sym new)
]

-- What is left to show of a call.
record Carries (s : State) (held : Held) (folders : Folder → Type 0) (texts : ℕ → List ℕ → Type 0) : Type 0 where
  pub folder_now : folders held.folder
  pub bytes_now : (i : ℕ) → texts i (bytes_of held i)
  pub plain : (D : Folder) → folders D → IsPlain (length held.files) D
  pub parts_single : (m q : Name) (i : ℕ) → get held.parts m ≡ Some i → get held.parts q ≡ Some i → m ≡ q
  pub parts_given : (m : Name) (i : ℕ) → get held.parts m ≡ Some i → i < length held.files
  pub apart : (D : Folder) (m q : Name) (i : ℕ) → folders D → get held.parts m ≡ Some i → get D q ≢ Some i
  pub doubts_given : (i : ℕ) → Contains held.doubtful i → i < length held.files
  pub unmade : (i : ℕ) (c : List ℕ) → length held.files ≤ i → texts i c → c ≡ []
  pub more : length s.held.files ≤ length held.files

fair_within : (s : State) (held : Held) (folders : Folder → Type 0) (texts : ℕ → List ℕ → Type 0) → IsFair s → Carries s held folders texts → IsFair (within s held folders texts)
fair_within s held folders texts fair carries = record {
  folder_now = carries.folder_now;
  bytes_now = carries.bytes_now;
  inside = λ D B now. inr (refl, now);
  plain = carries.plain;
  images_given = λ D B m i there leads. elim there as (λ _. i < length held.files) [
    | inl was ↦ omega (arith, fair.images_given D B m i was leads, carries.more)
    | inr now ↦ (carries.plain D now.1.names).given m i leads
  ];
  parts_single = carries.parts_single;
  parts_given = carries.parts_given;
  apart = carries.apart;
  doubts_given = carries.doubts_given;
  unmade = carries.unmade;
}

module _ (s : State) (fair : IsFair s) where
  abbrev n : ℕ
  n = length s.held.files

  one_more : length (s.held.files ++ [] ∷ []) ≡ n + 1
  one_more = length-append s.held.files ([] ∷ [])

  -- one name more, in an image or not
  plain_with : (k : ℕ) (name : Name) (i : ℕ) → n ≤ k → IsName name → i < k → ((E : Folder) (m : Name) → s.folders E → get E m ≢ Some i) → (D : Folder) → or_with s.folders name i D → IsPlain k D
  plain_with k name i le is_name lt free D from =
      let before = plain_more n k from.0 le (fair.plain from.0 from.1) in
      elim from.2 as (λ _. IsPlain k D) [
        | inl same ↦ plain_same k D from.0 same before
        | inr new ↦ plain_same k D (insert from.0 name i) new (plain_insert k from.0 name i is_name lt (λ m. free from.0 m from.1) before)
      ]

  leads_with : (name : Name) (i : ℕ) (D : Folder) (q : Name) (x : ℕ) → or_with s.folders name i D → get D q ≡ Some x → ((E : Folder) × s.folders E × (get E q ≡ Some x)) ⊎ (x ≡ i)
  leads_with name i D q x from leads = elim from.2 as (λ _. ((E : Folder) × s.folders E × (get E q ≡ Some x)) ⊎ (x ≡ i)) [
    | inl same ↦ inl (from.0, from.1, ap (λ (F : Folder). get F q) (sym same) ∙ leads)
    | inr new ↦ elim (insert_inv from.0 name q i x (ap (λ (F : Folder). get F q) (sym new) ∙ leads)) as (λ _. ((E : Folder) × s.folders E × (get E q ≡ Some x)) ⊎ (x ≡ i)) [
      | inl here ↦ inr here.1
      | inr there ↦ inl (from.0, from.1, there.1)
    ]
  ]

  fair_create : (name : Name) → IsName name → IsFair (step s (Create name))
  fair_create name is_name = fair_within s _ _ _ fair record {
    folder_now = (s.held.folder, fair.folder_now, inr refl);
    bytes_now = λ i. subst (s.texts i) (sym (bytes_pushed s.held.files i)) (fair.bytes_now i);
    plain = plain_with (length (s.held.files ++ [] ∷ [])) name n (omega (arith, one_more)) is_name (omega (arith, one_more)) (λ E m now leads. omega (arith, (fair.plain E now).given m n leads));
    parts_single = fair.parts_single;
    parts_given = λ m i leads. omega (arith, one_more, fair.parts_given m i leads);
    apart = λ D m q i from part leads. elim (leads_with name n D q i from leads) as (λ _. ⊥) [
      | inl there ↦ fair.apart there.0 m q i there.1 part there.2
      | inr is ↦ omega (arith, is, fair.parts_given m i part)
    ];
    doubts_given = λ i is. omega (arith, one_more, fair.doubts_given i is);
    unmade = λ i c le now. fair.unmade i c (omega (arith, one_more, le)) now;
    more = omega (arith, one_more);
  }

  fair_begin : (name : Name) → IsFair (step s (Begin name))
  fair_begin name = fair_within s _ _ _ fair record {
    folder_now = fair.folder_now;
    bytes_now = λ i. subst (s.texts i) (sym (bytes_pushed s.held.files i)) (fair.bytes_now i);
    plain = λ D now. plain_more n (length (s.held.files ++ [] ∷ [])) D (omega (arith, one_more)) (fair.plain D now);
    parts_single = λ m q i first second. elim (insert_inv s.held.parts name m n i first) as (λ _. m ≡ q) [
      | inl here ↦ elim (insert_inv s.held.parts name q n i second) as (λ _. m ≡ q) [
        | inl too ↦ here.0 ∙ sym too.0
        | inr there ↦ absurd (omega (arith, here.1, fair.parts_given q i there.1))
      ]
      | inr there ↦ elim (insert_inv s.held.parts name q n i second) as (λ _. m ≡ q) [
        | inl here ↦ absurd (omega (arith, here.1, fair.parts_given m i there.1))
        | inr too ↦ fair.parts_single m q i there.1 too.1
      ]
    ];
    parts_given = λ m i leads. elim (insert_inv s.held.parts name m n i leads) as (λ _. i < length (s.held.files ++ [] ∷ [])) [
      | inl here ↦ omega (arith, one_more, here.1)
      | inr there ↦ omega (arith, one_more, fair.parts_given m i there.1)
    ];
    apart = λ D m q i now part leads. elim (insert_inv s.held.parts name m n i part) as (λ _. ⊥) [
      | inl here ↦ omega (arith, here.1, (fair.plain D now).given q i leads)
      | inr there ↦ fair.apart D m q i now there.1 leads
    ];
    doubts_given = λ i is. omega (arith, one_more, fair.doubts_given i is);
    unmade = λ i c le now. fair.unmade i c (omega (arith, one_more, le)) now;
    more = omega (arith, one_more);
  }

  torn_now : (i at : ℕ) (b : List ℕ) → i < n → at ≤ length (bytes_of s.held i) → (j : ℕ) → torn_in s.texts i at (length b) j (bytes_of (written s.held i at b) j)
  torn_now i at b lt le j = elim (nat_cases j i) as (λ _. torn_in s.texts i at (length b) j (bytes_of (written s.held i at b) j)) [
    | inl same ↦ (bytes_of s.held j, fair.bytes_now j, inr (same, subst (λ (k : ℕ). Torn at (length b) (bytes_of s.held k) (bytes_of (written s.held i at b) k)) (sym same) (written_torn s.held i at b lt le)))
    | inr other ↦ (bytes_of s.held j, fair.bytes_now j, inl (other, written_other s.held i at b j other))
  ]

  abbrev m : (i at : ℕ) → List ℕ → ℕ
  m i at b = length (set s.held.files i (overwritten (bytes_of s.held i) at b))

  as_many : (i at : ℕ) (b : List ℕ) → m i at b ≡ n
  as_many i at b = length-set s.held.files i (overwritten (bytes_of s.held i) at b)

  torn_unmade : (i at k : ℕ) → i < n → (j : ℕ) (c : List ℕ) → n ≤ j → torn_in s.texts i at k j c → c ≡ []
  torn_unmade i at k lt j c le torn = elim torn.2 as (λ _. c ≡ []) [
    | inl other ↦ other.1 ∙ fair.unmade j torn.0 le torn.1
    | inr here ↦ absurd (omega (arith, here.0, lt, le))
  ]

  fair_write : (i at : ℕ) (b : _) → i < n → at ≤ length (bytes_of s.held i) → IsFair (step s (Write i at b))
  fair_write i at b lt le = let same = as_many i at b.items in fair_within s _ _ _ fair record {
    folder_now = fair.folder_now;
    bytes_now = torn_now i at b.items lt le;
    plain = λ D now. plain_more n (m i at b.items) D (omega (arith, same)) (fair.plain D now);
    parts_single = fair.parts_single;
    parts_given = λ q x leads. omega (arith, same, fair.parts_given q x leads);
    apart = fair.apart;
    doubts_given = λ x is. omega (arith, same, fair.doubts_given x is);
    unmade = λ j c far torn. torn_unmade i at (length b.items) lt j c (omega (arith, same, far)) torn;
    more = omega (arith, same);
  }

  fair_tear : (i at : ℕ) (b : _) → i < n → at ≤ length (bytes_of s.held i) → IsFair (step s (Tear i at b))
  fair_tear i at b lt le = let same = as_many i at b.items in fair_within s _ _ _ fair record {
    folder_now = fair.folder_now;
    bytes_now = torn_now i at b.items lt le;
    plain = λ D now. plain_more n (m i at b.items) D (omega (arith, same)) (fair.plain D now);
    parts_single = fair.parts_single;
    parts_given = λ q x leads. omega (arith, same, fair.parts_given q x leads);
    apart = fair.apart;
    doubts_given = λ x is. elim (one_doubt s.held.doubtful i x is) as (λ _. x < m i at b.items) [
      | inl was ↦ omega (arith, same, fair.doubts_given x was)
      | inr new ↦ omega (arith, same, new, lt)
    ];
    unmade = λ j c far torn. torn_unmade i at (length b.items) lt j c (omega (arith, same, far)) torn;
    more = omega (arith, same);
  }

  fair_doubt : (i : ℕ) → i < n → IsFair (step s (Doubt i))
  fair_doubt i lt = fair_within s _ _ _ fair record {
    folder_now = fair.folder_now;
    bytes_now = fair.bytes_now;
    plain = fair.plain;
    parts_single = fair.parts_single;
    parts_given = fair.parts_given;
    apart = fair.apart;
    doubts_given = λ x is. elim (one_doubt s.held.doubtful i x is) as (λ _. x < n) [ inl was ↦ fair.doubts_given x was | inr new ↦ omega (arith, new, lt) ];
    unmade = fair.unmade;
    more = omega arith;
  }

  fair_sync : (i : ℕ) → IsFair (step s (Sync i))
  fair_sync i = fair_within s _ _ _ fair record {
    folder_now = fair.folder_now;
    bytes_now = λ j. (fair.bytes_now j, λ same. ap (bytes_of s.held) same);
    plain = fair.plain;
    parts_single = fair.parts_single;
    parts_given = fair.parts_given;
    apart = fair.apart;
    doubts_given = fair.doubts_given;
    unmade = λ j c le now. fair.unmade j c le now.0;
    more = omega arith;
  }

  fair_move : (i : ℕ) (from to : Name) → get s.held.folder from ≡ Some i → IsName to → IsFair (step s (Move i from to))
  fair_move i from to was is_name = fair_within s _ _ _ fair record {
    folder_now = (s.held.folder, fair.folder_now, inr (from, was, refl));
    bytes_now = fair.bytes_now;
    plain = λ D now. elim now.2 as (λ _. IsPlain n D) [
      | inl same ↦ plain_same n D now.0 same (fair.plain now.0 now.1)
      | inr done ↦ plain_same n D (insert (remove now.0 done.0) to i) done.2 (plain_moved n now.0 done.0 to i is_name done.1 (fair.plain now.0 now.1))
    ];
    parts_single = fair.parts_single;
    parts_given = fair.parts_given;
    apart = λ D m q x now part leads. elim now.2 as (λ _. ⊥) [
      | inl same ↦ fair.apart now.0 m q x now.1 part (ap (λ (F : Folder). get F q) (sym same) ∙ leads)
      | inr done ↦ elim (insert_inv (remove now.0 done.0) to q i x (ap (λ (F : Folder). get F q) (sym done.2) ∙ leads)) as (λ _. ⊥) [
        | inl here ↦ fair.apart now.0 m done.0 x now.1 part (done.1 ∙ ap Some (sym here.1))
        | inr there ↦ fair.apart now.0 m q x now.1 part (remove_inv now.0 done.0 q x there.1).1
      ]
    ];
    doubts_given = fair.doubts_given;
    unmade = fair.unmade;
    more = omega arith;
  }

  fair_unlink : (i : ℕ) (name : Name) → get s.held.folder name ≡ Some i → IsFair (step s (Unlink i name))
  fair_unlink i name was = fair_within s _ _ _ fair record {
    folder_now = (s.held.folder, fair.folder_now, inr (without_name n i s.held.folder name (fair.plain s.held.folder fair.folder_now) was));
    bytes_now = fair.bytes_now;
    plain = λ D now. elim now.2 as (λ _. IsPlain n D) [
      | inl same ↦ plain_same n D now.0 same (fair.plain now.0 now.1)
      | inr done ↦ plain_without n i now.0 D done (fair.plain now.0 now.1)
    ];
    parts_single = fair.parts_single;
    parts_given = fair.parts_given;
    apart = λ D m q x now part leads. elim now.2 as (λ _. ⊥) [
      | inl same ↦ fair.apart now.0 m q x now.1 part (ap (λ (F : Folder). get F q) (sym same) ∙ leads)
      | inr done ↦ fair.apart now.0 m q x now.1 part (without_inv i now.0 D q x done leads)
    ];
    doubts_given = fair.doubts_given;
    unmade = fair.unmade;
    more = omega arith;
  }

  fair_place : (i : ℕ) (name : Name) → get s.held.parts name ≡ Some i → is_some (get s.held.folder name) ≡ true → IsFair (step s (Place i name))
  fair_place i name was there = fair_within s _ _ _ fair record {
    folder_now = (s.held.folder, fair.folder_now, inr refl);
    bytes_now = fair.bytes_now;
    plain = let old = some_of (get s.held.folder name) there in
        plain_with n name i (omega arith) ((fair.plain s.held.folder fair.folder_now).named name old.0 old.1) (fair.parts_given name i was) (λ E m now. fair.apart E name m i now was);
    parts_single = λ m q x first second. fair.parts_single m q x (remove_inv s.held.parts name m x first).1 (remove_inv s.held.parts name q x second).1;
    parts_given = λ m x leads. fair.parts_given m x (remove_inv s.held.parts name m x leads).1;
    apart = λ D m q x from part leads. let is = remove_inv s.held.parts name m x part in elim (leads_with name i D q x from leads) as (λ _. ⊥) [
      | inl before ↦ fair.apart before.0 m q x before.1 is.1 before.2
      | inr same ↦ is.0 (fair.parts_single m name x is.1 (was ∙ ap Some (sym same)))
    ];
    doubts_given = fair.doubts_given;
    unmade = fair.unmade;
    more = omega arith;
  }

  fair_folder : IsFair (step s SyncFolder)
  fair_folder = fair_within s _ _ _ fair record {
    folder_now = refl;
    bytes_now = fair.bytes_now;
    plain = λ D same. plain_same n D s.held.folder same (fair.plain s.held.folder fair.folder_now);
    parts_single = fair.parts_single;
    parts_given = fair.parts_given;
    apart = λ D m q x same part leads. fair.apart s.held.folder m q x fair.folder_now part (ap (λ (F : Folder). get F q) (sym same) ∙ leads);
    doubts_given = fair.doubts_given;
    unmade = fair.unmade;
    more = omega arith;
  }

  fair_tick : IsFair (step s Tick)
  fair_tick = record {
    folder_now = fair.folder_now;
    bytes_now = fair.bytes_now;
    inside = λ D B now. inr (refl, now);
    plain = fair.plain;
    images_given = λ D B m i there leads. elim there as (λ _. i < n) [
      | inl early ↦ absurd (omega (arith, early.0))
      | inr now ↦ (fair.plain D now.1.names).given m i leads
    ];
    parts_single = fair.parts_single;
    parts_given = fair.parts_given;
    apart = fair.apart;
    doubts_given = fair.doubts_given;
    unmade = fair.unmade;
  }

pub fair_step : (s : State) (op : Op) → IsFair s → Meets s.held op → IsFair (step s op)
fair_step s (Create name) fair met = fair_create s fair name met
fair_step s (Begin name) fair met = fair_begin s fair name
fair_step s (Write i at bytes) fair met = fair_write s fair i at bytes met.0 met.1
fair_step s (Tear i at bytes) fair met = fair_tear s fair i at bytes met.0 met.1
fair_step s (Doubt i) fair met = fair_doubt s fair i met
fair_step s (Sync i) fair met = fair_sync s fair i
fair_step s (Move i from to) fair met = fair_move s fair i from to met.0 met.2
fair_step s (Unlink i name) fair met = fair_unlink s fair i name met
fair_step s (Place i name) fair met = fair_place s fair i name met.0 met.1
fair_step s SyncFolder fair met = fair_folder s fair
fair_step s Tick fair met = fair_tick s fair

pub fair_after : (s : State) (ops : List Op) → IsFair s → MeetAll s ops → IsFair (after s ops)
fair_after s [] fair met = fair
fair_after s (op ∷ ops) fair met = fair_after (step s op) ops (fair_step s op fair met.0) met.1

-- it may be what a system begins with
pub record IsStart (h : Held) : Type 0 where
  pub plain : IsPlain (length h.files) h.folder
  pub parts : (m : Name) → get h.parts m ≡ None
  pub certain : h.doubtful ≡ []

no_part : (h : Held) → IsStart h → (m : Name) (i : ℕ) → get h.parts m ≢ Some i
no_part h start m i leads = let none = start.parts m in absurd (cc (leads, none))

none_in : (l : List ℕ) (i : ℕ) → l ≡ [] → ¬ Contains l i
none_in l i e is = omega (arith, is.1, ap length e)

pub fair_quiet : (h : Held) → IsStart h → IsFair (quiet h)
fair_quiet h start = record {
  folder_now = refl;
  bytes_now = λ i. refl;
  inside = λ D B now. now;
  plain = λ D same. plain_same (length h.files) D h.folder same start.plain;
  images_given = λ D B m i now leads. (plain_same (length h.files) D h.folder now.names start.plain).given m i leads;
  parts_single = λ m q i leads. absurd (no_part h start m i leads);
  parts_given = λ m i leads. absurd (no_part h start m i leads);
  apart = λ D m q i now part. absurd (no_part h start m i part);
  doubts_given = λ i is. absurd (none_in h.doubtful i start.certain is);
  unmade = λ i c le is. is ∙ bytes_beyond h.files i le;
}

pub true_state : (s : State) → IsFair s → IsTrueSystem (view_of_state s)
true_state s fair = let plain = fair.plain s.held.folder fair.folder_now in record {
  reads = record { names = fair.folder_now; bytes = fair.bytes_now };
  within = fair.inside;
  single = plain.single;
  named = λ m there. let is = some_of (get s.held.folder m) there in plain.named m is.0 is.1;
}
