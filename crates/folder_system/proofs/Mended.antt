-- How an opening makes sure of the files.
use Rattle.std.proofs.Common.{◌≡◌, ◌≢◌, ◌⊎◌, inl, inr, ℕ, ◌+◌, ◌<◌, List, length, take, get_or, Contains, Some, true, is_some, refl, sym, ap, subst, ◌∙◌, arith}
use Rattle.std.specs.FinMap.{get, keys, insert}
use Rattle.std.proofs.lemmas.List.{take_more}
use Rattle.std.proofs.lemmas.List.Elements.{Contains-push_cases, Contains-get_or}
use Rattle.log_model.specs.declared.name.Name.{Name}
use Rattle.log_model.specs.Files.{Reads, content}
use Rattle.disk_images.proofs.Settled.{among_names, read_of}
use Rattle.folder_system.specs.System.{Folder, Bytes, SystemView, IsImage, IsTrueSystem}
use Rattle.folder_system.specs.Calls as sys
use Rattle.folder_system.specs.View.{files_of, MayLead, Opens}
use Rattle.folder_system.specs.Mending.{FromImage, AsRead, OpensSafely, Renews, Mends, Copies}
use Rattle.folder_system.specs.Laws.{file_in, keys_of, read_in, absent_in}
use Rattle.folder_system.proofs.Copied.{look_image, image_cases}
use Rattle.folder_system.proofs.Folders.{name_cases, insert_here, insert_other, one_inode, same_content}

-- a copy gets its place
pub renewing : (name : Name) (k i : ℕ) (v0 v1 v2 v3 v4 v5 v6 : SystemView) → IsTrueSystem v0 → IsTrueSystem v1 → IsTrueSystem v3 → IsTrueSystem v4 → IsTrueSystem v5
    → get v0.folder name ≡ Some k → sys.Looks v0 v1 → sys.PartMade name i v1 v2 → Copies k i v2 v3 → sys.Looks v3 v4 → sys.Observes v4 v5 → v5.parts ≡ v4.parts
    → sys.NoneNewlyDoubtful v4 v5 → (¬ v4.doubtful i → (D : Folder) (B : Bytes) → v5.now D B → B i ≡ v5.bytes i) → (j : ℕ) × sys.Placed name j v5 v6 → Renews name v0 v6
renewing name k i v0 v1 v2 v3 v4 v5 v6 fair0 fair fair3 fair4 fair5 is opened made copy looked synced parts certain pinned placed =
    let p = placed.1 in
    let one : placed.0 ≡ i = one_inode (get v5.parts name) placed.0 i p.was
    (ap (λ (D : Folder). get D name) (parts ∙ looked.parts ∙ copy.beside.parts ∙ made.parts) ∙ insert_here v1.parts name i) in
    let before : v5.folder ≡ v0.folder = synced.folder ∙ looked.observes.folder ∙ copy.beside.folder ∙ made.folder ∙ opened.observes.folder in
    let after : v6.folder ≡ insert v5.folder name i = p.folder ∙ ap (λ (n : ℕ). insert v5.folder name n) one in
    let here : get v6.folder name ≡ Some i = ap (λ (D : Folder). get D name) after ∙ insert_here v5.folder name i in
    let elsewhere : (m : Name) → m ≢ name → get v6.folder m ≡ get v0.folder m = λ m other.
    ap (λ (D : Folder). get D m) after ∙ insert_other v5.folder name m i other ∙ ap (λ (D : Folder). get D m) before in
    let sure3 : ¬ v3.doubtful i = λ doubt. made.certain (copy.beside.sure i doubt) in
    let sure4 : ¬ v4.doubtful i = λ doubt. sure3 (looked.sure i doubt) in
    let sure5 : ¬ v5.doubtful i = λ doubt. sure4 (certain i doubt) in
    let sure6 : ¬ v6.doubtful i = λ doubt. sure5 (p.sure i doubt) in
    let text : v6.bytes i ≡ v3.bytes i = p.bytes i sure5 ∙ synced.bytes i sure4 ∙ looked.observes.bytes i sure3 in
    let fresh : (m : Name) (j : ℕ) → get v0.folder m ≡ Some j → j ≢ i = λ m j to same.
    made.fresh v1.folder v1.bytes m (fair.within v1.folder v1.bytes fair.reads) (ap (λ (D : Folder). get D m) opened.observes.folder ∙ to ∙ ap (λ (n : ℕ). Some n) same) in
    let doubt1 : (j : ℕ) → ¬ v0.doubtful j → ¬ v1.doubtful j = λ j sure doubt. sure (opened.sure j doubt) in
    let doubt2 : (j : ℕ) → j ≢ i → ¬ v0.doubtful j → ¬ v2.doubtful j = λ j apart sure doubt. doubt1 j sure (made.sure j apart doubt) in
    let doubt3 : (j : ℕ) → j ≢ i → ¬ v0.doubtful j → ¬ v3.doubtful j = λ j apart sure doubt. doubt2 j apart sure (copy.beside.sure j doubt) in
    let doubt4 : (j : ℕ) → j ≢ i → ¬ v0.doubtful j → ¬ v4.doubtful j = λ j apart sure doubt. doubt3 j apart sure (looked.sure j doubt) in
    let doubt5 : (j : ℕ) → j ≢ i → ¬ v0.doubtful j → ¬ v5.doubtful j = λ j apart sure doubt. doubt4 j apart sure (certain j doubt) in
    let doubt6 : (j : ℕ) → j ≢ i → ¬ v0.doubtful j → ¬ v6.doubtful j = λ j apart sure doubt. doubt5 j apart sure (p.sure j doubt) in
    let bytes2 : (j : ℕ) → j ≢ i → ¬ v0.doubtful j → v2.bytes j ≡ v0.bytes j = λ j apart sure. made.bytes j apart (doubt1 j sure) ∙ opened.observes.bytes j sure in
    let bytes6 : (j : ℕ) → j ≢ i → ¬ v0.doubtful j → v6.bytes j ≡ v0.bytes j = λ j apart sure.
    p.bytes j (doubt5 j apart sure) ∙ synced.bytes j (doubt4 j apart sure) ∙ looked.observes.bytes j (doubt3 j apart sure) ∙ copy.beside.others j apart (doubt2 j apart sure) ∙ bytes2 j apart sure in
    -- an image before the copy got its place has no name that leads to it
    let back : (D : Folder) (B : Bytes) → IsImage v5 D B → (C : Bytes) × IsImage v1 D C × ((j : ℕ) → j ≢ i → B j ≡ C j) = λ D B image.
    let x = copy.beside.images D B (look_image v3 v4 fair3 looked.observes D B (look_image v4 v5 fair4 synced D B image)) in
    elim (image_cases v1 v2 made.within D x.0 x.1) as (λ _. (C : Bytes) × IsImage v1 D C × ((j : ℕ) → j ≢ i → B j ≡ C j)) [
      | inl early ↦ (x.0, early, x.2)
      | inr late ↦ let y = made.now D x.0 late in (y.0, fair.within D y.0 y.1, λ j other. x.2 j other ∙ y.2 j other)
    ] in
    let from : (D : Folder) (B : Bytes) (m : Name) → IsImage v5 D B → FromImage v0 D B m = λ D B m image.
    let x = back D B image in
    (D, x.0, look_image v0 v1 fair0 opened.observes D x.0 x.1, same_content D D B x.0 m refl (λ j to. x.2 j (λ e. made.fresh D x.0 m x.1 (to ∙ ap (λ (n : ℕ). Some n) e)))) in
    record {
      clock = p.within.clock ∙ synced.within.clock ∙ looked.observes.within.clock ∙ copy.beside.clock ∙ made.within.clock ∙ opened.observes.within.clock;
      images = λ D B m image. elim (image_cases v5 v6 p.within D B image) as (λ _. FromImage v0 D B m ⊎ AsRead v6 D B m) [
        | inl early ↦ inl (from D B m early)
        | inr late ↦
            let s = p.now D B late in
            let f = from s.0 B m (fair5.within s.0 B s.1) in
            elim s.2 as (λ _. FromImage v0 D B m ⊎ AsRead v6 D B m) [
              | inl not_done ↦ inl (f.0, f.1, f.2, ap (λ (F : Folder). content (files_of F B) m) not_done ∙ f.3)
              | inr done ↦
                  let placed_i : D ≡ insert s.0 name i = done ∙ ap (λ (n : ℕ). insert s.0 name n) one in
                  elim (name_cases m name) as (λ _. FromImage v0 D B m ⊎ AsRead v6 D B m) [
                    | inl same ↦
                        let to_i : get D m ≡ Some i = ap (λ (F : Folder). get F m) placed_i ∙ ap (λ (n : Name). get (insert s.0 name i) n) same ∙ insert_here s.0 name i in
                        inr (
                          i,
                          ap (λ (n : Name). get v6.folder n) same ∙ here,
                          sure6,
                          file_in D B m i to_i ∙ ap (λ (l : List ℕ). Some l) (pinned sure4 s.0 B s.1 ∙ sym (p.bytes i sure5)),
                        )
                    | inr other ↦ inl (f.0, f.1, f.2, same_content D s.0 B B m (ap (λ (F : Folder). get F m) placed_i ∙ insert_other s.0 name m i other) (λ j to. refl) ∙ f.3)
                  ]
            ]
      ];
      elsewhere = elsewhere;
      there = ap is_some here ∙ sym (ap is_some is);
      certain = λ j to. subst (λ (n : ℕ). ¬ v6.doubtful n) (one_inode (get v6.folder name) i j here to) sure6;
      bytes = λ m j to sure. elim (name_cases m name) as (λ _. (n : ℕ) × (get v6.folder m ≡ Some n) × (¬ v6.doubtful n) × (v6.bytes n ≡ v0.bytes j)) [
        | inl same ↦
            let k_is : k ≡ j = one_inode (get v0.folder name) k j is (ap (λ (n : Name). get v0.folder n) (sym same) ∙ to) in
            let sure_k : ¬ v0.doubtful k = subst (λ (n : ℕ). ¬ v0.doubtful n) (sym k_is) sure in
            let apart : k ≢ i = fresh name k is in
            (i, ap (λ (n : Name). get v6.folder n) same ∙ here, sure6, text ∙ copy.copied (doubt2 k apart sure_k) ∙ bytes2 k apart sure_k ∙ ap v0.bytes k_is)
        | inr other ↦
            let apart : j ≢ i = fresh m j to in
            (j, elsewhere m other ∙ to, doubt6 j apart sure, bytes6 j apart sure)
      ];
    }

-- a file that is sealed stays
pub renews_sealed : (name : Name) (u v : SystemView) → IsTrueSystem u → sys.Looks u v → ((i : ℕ) → get u.folder name ≡ Some i → ¬ u.doubtful i) → Renews name u v
renews_sealed name u v fair look sealed =
    let names : (m : Name) → get v.folder m ≡ get u.folder m = λ m. ap (λ (D : Folder). get D m) look.observes.folder in
    record {
      clock = look.observes.within.clock;
      images = λ D B m image. inl (D, B, look_image u v fair look.observes D B image, refl);
      elsewhere = λ m other. names m;
      there = ap is_some (names name);
      certain = λ i to doubt. sealed i (sym (names name) ∙ to) (look.sure i doubt);
      bytes = λ m i to sure. (i, names m ∙ to, λ doubt. sure (look.sure i doubt), look.observes.bytes i sure);
    }

pub renews_after : (name : Name) (u v w : SystemView) → IsTrueSystem u → sys.Looks u v → Renews name v w → Renews name u w
renews_after name u v w fair look r =
    let names : (m : Name) → get v.folder m ≡ get u.folder m = λ m. ap (λ (D : Folder). get D m) look.observes.folder in
    record {
      clock = r.clock ∙ look.observes.within.clock;
      images = λ D B m image. elim (r.images D B m image) as (λ _. FromImage u D B m ⊎ AsRead w D B m) [
        | inl f ↦ inl (f.0, f.1, look_image u v fair look.observes f.0 f.1 f.2, f.3)
        | inr a ↦ inr a
      ];
      elsewhere = λ m other. r.elsewhere m other ∙ names m;
      there = r.there ∙ ap is_some (names name);
      certain = r.certain;
      bytes = λ m i to sure.
          let b = r.bytes m i (names m ∙ to) (λ doubt. sure (look.sure i doubt)) in
          (b.0, b.1, b.2, b.3 ∙ look.observes.bytes i sure);
    }

-- how far the files are mended
pub record Going (told : Type 0) (first now : SystemView) (names : List Name) (count : ℕ) : Type 0 where
  pub mends : told → Mends first now (take count names)

pub none_mended : (told : Type 0) (v : SystemView) (names : List Name) → Going told v v names 0
none_mended told v names = record {
  mends = λ is_told. record { clock = refl; images = λ D B m image. inl (D, B, image, refl); same = λ m. refl; certain = λ m i has. absurd (omega (arith, has.1)); bytes = λ m i to sure. (i, to, sure, refl) };
}

pub one_more : (told : Type 0) (first v w : SystemView) (names : List Name) (count : ℕ) (x : Name) → count < length names → Going told first v names count
    → (told → Renews (get_or names count x) v w) → Going told first w names (count + 1)
one_more told first v w names count x there so_far renews = record {
  mends = λ is_told.
      let done = so_far.mends is_told in
      let r = renews is_told in
      let this : Name = get_or names count x in
      record {
        clock = r.clock ∙ done.clock;
        images = λ D B m image. elim (r.images D B m image) as (λ _. FromImage first D B m ⊎ AsRead w D B m) [
          | inl f ↦ elim (done.images f.0 f.1 m f.2) as (λ _. FromImage first D B m ⊎ AsRead w D B m) [
            | inl k ↦ inl (k.0, k.1, k.2, f.3 ∙ k.3)
            | inr a ↦
                let b = r.bytes m a.0 a.1 a.2 in
                inr (b.0, b.1, b.2, f.3 ∙ a.3 ∙ ap (λ (l : List ℕ). Some l) (sym b.3))
          ]
          | inr a ↦ inr a
        ];
        same = λ m. elim (name_cases m this) as (λ _. is_some (get w.folder m) ≡ is_some (get first.folder m)) [
          | inl is ↦ ap (λ (n : Name). is_some (get w.folder n)) is ∙ r.there ∙ ap (λ (n : Name). is_some (get v.folder n)) (sym is) ∙ done.same m
          | inr other ↦ ap is_some (r.elsewhere m other) ∙ done.same m
        ];
        certain = λ m i has to. elim (name_cases m this) as (λ _. ¬ w.doubtful i) [
          | inl is ↦ r.certain i (ap (λ (n : Name). get w.folder n) (sym is) ∙ to)
          | inr other ↦ elim (Contains-push_cases (take count names) this m (subst (λ (l : List Name). Contains l m) (take_more names count x there) has)) as (λ _. ¬ w.doubtful i) [
            | inl before ↦
                let to_v : get v.folder m ≡ Some i = sym (r.elsewhere m other) ∙ to in
                let b = r.bytes m i to_v (done.certain m i before to_v) in
                subst (λ (n : ℕ). ¬ w.doubtful n) (one_inode (get w.folder m) b.0 i b.1 to) b.2
            | inr same ↦ absurd (other (sym same))
          ]
        ];
        bytes = λ m i to sure.
            let a = done.bytes m i to sure in
            let b = r.bytes m a.0 a.1 a.2 in
            (b.0, b.1, b.2, b.3 ∙ a.3);
      };
}

-- a name that is listed is there
pub listed_there : (D : Folder) (B : Bytes) (m : Name) → Contains (keys D) m → is_some (get D m) ≡ true
listed_there D B m has =
    let r = read_of (files_of D B) m (subst (λ (l : List Name). Contains l m) (sym (keys_of D B)) has) in
    ap is_some (read_in D B m r.0 r.1).1

pub this_there : (told : Type 0) (first v : SystemView) (names : List Name) (count : ℕ) (x : Name) → count < length names → Going told first v names count
    → (told → (m : Name) → Contains names m → is_some (get first.folder m) ≡ true) → told → is_some (get v.folder (get_or names count x)) ≡ true
this_there told first v names count x there so_far listed is_told =
    let this : Name = get_or names count x in
    (so_far.mends is_told).same this ∙ listed is_told this (Contains-get_or names count x there)

-- the files are mended, and the folder was synced
module _ (old first done mid new : SystemView) (fair : IsTrueSystem old) (fair_done : IsTrueSystem done) (fair_mid : IsTrueSystem mid) (names : List Name) (all : names ≡ keys old.folder) (look : sys.Looks old first) (m : Mends first done names)
    (synced : sys.Looks done mid) (pinned : (D : Folder) (B : Bytes) → mid.now D B → D ≡ mid.folder) (tick : sys.Ticks mid new) where
  same_names : (D : Folder) (B : Bytes) → IsImage new D B → D ≡ new.folder
  same_names D B image = pinned D B (tick.now D B (tick.begins D B image)) ∙ sym tick.folder

  leads_now : (n : Name) (i : ℕ) → MayLead new n i → get new.folder n ≡ Some i
  leads_now n i lead = ap (λ (D : Folder). get D n) (sym (same_names lead.folder lead.bytes lead.image)) ∙ lead.leads

  after : new.folder ≡ done.folder
  after = tick.folder ∙ synced.observes.folder

  at : (n : Name) → get new.folder n ≡ get done.folder n
  at n = ap (λ (D : Folder). get D n) after

  before : (n : Name) → get first.folder n ≡ get old.folder n
  before n = ap (λ (D : Folder). get D n) look.observes.folder

  sure_after : (i : ℕ) → ¬ done.doubtful i → ¬ new.doubtful i
  sure_after i sure doubt = sure (synced.sure i (tick.doubtful i doubt))

  listed : (n : Name) (i : ℕ) → get done.folder n ≡ Some i → Contains names n
  listed n i is =
      let found : is_some (get old.folder n) ≡ true = ap is_some (sym (before n)) ∙ sym (m.same n) ∙ ap is_some is in
      subst (λ (l : List Name). Contains l n) (keys_of old.folder old.bytes ∙ sym all)
      (among_names (files_of old.folder old.bytes) n (λ none. absurd (cc (sym found ∙ ap is_some (absent_in old.folder old.bytes n none)))))

  same_bytes : (n : Name) (i : ℕ) → get old.folder n ≡ Some i → ¬ old.doubtful i → Reads (files_of new.folder new.bytes) n (old.bytes i)
  same_bytes n i is sure =
      let b = m.bytes n i (before n ∙ is) (λ doubt. sure (look.sure i doubt)) in
      let here : get new.folder n ≡ Some b.0 = at n ∙ b.1 in
      file_in new.folder new.bytes n b.0 here
      ∙ ap (λ (l : List ℕ). Some l) (ap (λ (B : Bytes). B b.0) tick.bytes ∙ synced.observes.bytes b.0 b.2 ∙ b.3 ∙ look.observes.bytes i sure)

  either : (D : Folder) (B : Bytes) (n : Name) → IsImage mid D B → FromImage old D B n ⊎ AsRead new D B n
  either D B n image = elim (m.images D B n (look_image done mid fair_done synced.observes D B image)) as (λ _. FromImage old D B n ⊎ AsRead new D B n) [
    | inl f ↦ inl (f.0, f.1, look_image old first fair look.observes f.0 f.1 f.2, f.3)
    | inr a ↦ inr (
      a.0,
      at n ∙ a.1,
      sure_after a.0 a.2,
      a.3 ∙ ap (λ (l : List ℕ). Some l) (sym (ap (λ (B : Bytes). B a.0) tick.bytes ∙ synced.observes.bytes a.0 a.2)),
    )
  ]

  same_clock : mid.clock ≡ old.clock
  same_clock = synced.observes.within.clock ∙ m.clock ∙ look.observes.within.clock

  pub opened_safely : OpensSafely old new
  opened_safely = record {
    clock = tick.clock ∙ ap (λ (c : ℕ). c + 1) same_clock;
    before = λ D B n image. either D B n (subst (λ (c : ℕ). mid.image c D B) (sym same_clock) (tick.past old.clock D B (omega (arith, same_clock)) image));
    after = λ D B n image. either D B n (fair_mid.within D B (tick.now D B (tick.begins D B image)));
  }

  pub opened : Opens old new
  opened = record {
    good = record {
      sure = λ n i is. let was : get done.folder n ≡ Some i = sym (at n) ∙ is in sure_after i (m.certain n i (listed n i was) was);
      plain = λ n i j a b. one_inode (get new.folder n) i j (leads_now n i a) (leads_now n j b);
    };
    pinned = record { there = λ D B n i image is. ap (λ (F : Folder). get F n) (same_names D B image) ∙ is; alone = λ n o i lead is. leads_now o i lead };
    names = λ n. ap is_some (at n) ∙ m.same n ∙ ap is_some (before n);
    bytes = same_bytes;
  }
