-- What holds of every disk holds along every history whose calls met their conditions.
use Rattle.std.proofs.Common.{◌≡◌, ◌≢◌, ◌⊎◌, inl, inr, ⊎_elim, ℕ, ◌+◌, ◌≤◌, List, [], ◌∷◌, ◌++◌, length, true, false, Option, Some, None, is_some, take, drop, ◌-◌, refl, sym, ◌∙◌, ap, subst, arith, length-append, length-take, length-drop, append_assoc}
use Rattle.std.proofs.lemmas.List.{take_at, drop_at}
use Rattle.std.specs.FinMap as map
use Rattle.log_model.specs.declared.name.Name.{Name}
use Rattle.log_model.specs.Files.{Files, content, IsAbsent, IsName}
use Rattle.disk_images.specs.Crash.{DiskView, IsImageNow, overwritten, Torn, TornFile}
use Rattle.disk_images.specs.Calls.{IsTrueDisk}
use Rattle.disk_fakes.specs.declared.op.Op.{Op}
use Rattle.disk_fakes.specs.declared.op.Op.TheVariants.{Create, Write, Sync, Rename, Remove, Settle}
use Rattle.disk_fakes.specs.History.{next, written, renamed, step, after, quiet, IsThere, Reaches, Meets, MeetAll, AreNamed}
use Rattle.disk_fakes.specs.Order.{name_cases, insert_here, insert_other, remove_here, remove_other}

-- an image of the new moment
pub now_here : {P N : Type 0} (k : ℕ) → ((k + 1 ≤ k) × P) ⊎ ((k + 1 ≡ k + 1) × N) → N
now_here k (inl early) = absurd (omega (arith, early.0))
now_here k (inr there) = there.1

-- a file that is there isn't absent
pub not_both : {P : Type 0} (o : Option (List ℕ)) → is_some o ≡ true → o ≡ None → P
not_both o there none = let no : is_some o ≡ false = ap is_some none in absurd (cc (there, no))

pub text_of : (o : Option (List ℕ)) → is_some o ≡ true → (c : List ℕ) × (o ≡ Some c)
text_of None there = absurd (cc there)
text_of (Some c) there = (c, refl)

-- the text of a file that reaches so far
pub reached : (o : Option (List ℕ)) (at : ℕ) → Reaches at o → (c : List ℕ) × (o ≡ Some c) × (at ≤ length c)
reached None at reaches = absurd reaches
reached (Some c) at reaches = (c, refl, reaches)

kept_there : (files : Files) (name n : Name) (c : List ℕ) → IsThere files n → IsThere (map.insert files name c) n
kept_there files name n c there = elim (name_cases n name) as (λ _. IsThere (map.insert files name c) n) [
  | inl same ↦ ap is_some (ap (λ (k : Name). content (map.insert files name c) k) same ∙ insert_here files name c)
  | inr other ↦ ap is_some (insert_other files name n c other) ∙ there
]

-- what is there after an insert is the file put there, or was there before
pub there_before : (files : Files) (name m : Name) (c : List ℕ) → IsThere (map.insert files name c) m → (m ≡ name) ⊎ IsThere files m
there_before files name m c there = elim (name_cases m name) as (λ _. (m ≡ name) ⊎ IsThere files m) [
  | inl same ↦ inl same
  | inr other ↦ inr (ap is_some (sym (insert_other files name m c other)) ∙ there)
]

-- what is there after a remove was there before
pub there_still : (files : Files) (name m : Name) → IsThere (map.remove files name) m → IsThere files m
there_still files name m there = elim (name_cases m name) as (λ _. IsThere files m) [
  | inl same ↦ not_both (content (map.remove files name) m) there (ap (content (map.remove files name)) same ∙ remove_here files name)
  | inr other ↦ ap is_some (sym (remove_other files name m other)) ∙ there
]

-- what is absent after an insert is another file, which was absent
absent_before : (files : Files) (name m : Name) (c : List ℕ) → IsAbsent (map.insert files name c) m → (m ≢ name) × IsAbsent files m
absent_before files name m c absent =
    let other : m ≢ name = λ same. let here = ap (λ (k : Name). content (map.insert files name c) k) same ∙ insert_here files name c in absurd (cc (here, absent)) in
    (other, sym (insert_other files name m c other) ∙ absent)

-- what is absent stays so if another file is put
absent_after : (files : Files) (name m : Name) (c : List ℕ) → m ≢ name → IsAbsent files m → IsAbsent (map.insert files name c) m
absent_after files name m c other absent = insert_other files name m c other ∙ absent

absent_removed : (files : Files) (name m : Name) → IsAbsent files m → IsAbsent (map.remove files name) m
absent_removed files name m absent = elim (name_cases m name) as (λ _. IsAbsent (map.remove files name) m) [
  | inl same ↦ ap (content (map.remove files name)) same ∙ remove_here files name
  | inr other ↦ remove_other files name m other ∙ absent
]

pub torn_over : (at : ℕ) (c bytes : List ℕ) → at ≤ length c → Torn at (length bytes) c (overwritten c at bytes)
torn_over at c bytes le =
    let front : length (take at c) ≡ at = omega (arith, length-take at c, le) in
    let head : length (take at c ++ bytes) ≡ at + length bytes = omega (arith, length-append (take at c) bytes, front) in
    let size : length (overwritten c at bytes) ≡ at + length bytes + (length c - (at + length bytes)) = omega (arith, length-append (take at c ++ bytes) (drop (at + length bytes) c), head, length-drop (at + length bytes) c) in
    record {
      before = ap (λ (l : List ℕ). take at l) (append_assoc (take at c) bytes (drop (at + length bytes) c)) ∙ take_at (take at c) (bytes ++ drop (at + length bytes) c) at front;
      after = drop_at (take at c ++ bytes) (drop (at + length bytes) c) (at + length bytes) head;
      no_shorter = omega (arith, size);
      no_longer = omega (arith, size);
    }

pub torn_not : (at n : ℕ) (o : Option (List ℕ)) → TornFile at n o o
torn_not at n None = refl
torn_not at n (Some c) = (c, refl, record { before = refl; after = refl; no_shorter = omega arith; no_longer = omega arith })

pub torn_to : (at : ℕ) (bytes c : List ℕ) (old new : Option (List ℕ)) → old ≡ Some c → new ≡ Some (overwritten c at bytes) → at ≤ length c → TornFile at (length bytes) old new
torn_to at bytes c old new was now le =
    subst (λ (o : Option (List ℕ)). TornFile at (length bytes) o new) (sym was) (overwritten c at bytes, now, torn_over at c bytes le)

module _ (v : DiskView) (fair : IsTrueDisk v) where
  not_former : (n m : Name) → ¬ v.gone m → ¬ v.formerly n m
  not_former n m not_gone former = not_gone (fair.former_gone n m former)

  pub former_absent : (n m : Name) → v.formerly n m → IsAbsent v.files m
  former_absent n m former = fair.gone_absent m (fair.former_gone n m former)

  -- a file and its former name differ
  pub former_other : (n m : Name) → v.formerly n m → m ≢ n
  former_other n m former same = not_both (content v.files n) (fair.former_there n m former) (ap (content v.files) (sym same) ∙ former_absent n m former)

  fair_nothing : IsTrueDisk (next v v.files v.gone v.formerly (IsImageNow v))
  fair_nothing = record {
    absent = λ m absent not_gone J there. fair.absent m absent not_gone J (now_here v.clock there);
    gone_absent = fair.gone_absent;
    former_there = fair.former_there;
    former_gone = fair.former_gone;
    named = fair.named;
    reads = inr (refl, fair.reads);
  }

  fair_create : (name : Name) → IsAbsent v.files name → ¬ v.gone name → IsName name → IsTrueDisk (step v (Create name))
  fair_create name free not_gone is_name = record {
    absent = λ m absent not_gone J there.
        let before = absent_before v.files name m [] absent in
        let from = now_here v.clock there in
        from.2.elsewhere m before.0 ∙ fair.absent m before.1 not_gone from.0 from.1;
    gone_absent = λ m gone. absent_after v.files name m [] (λ same. not_gone (subst v.gone same gone)) (fair.gone_absent m gone);
    former_there = λ n m former. kept_there v.files name n [] (fair.former_there n m former);
    former_gone = fair.former_gone;
    named = λ m there. elim (there_before v.files name m [] there) as (λ _. IsName m) [ inl same ↦ subst IsName (sym same) is_name | inr was ↦ fair.named m was ];
    reads = inr (refl, (v.files, fair.reads, record { elsewhere = λ m other. insert_other v.files name m [] other; here = inr (insert_here v.files name []) }));
  }

  fair_write : (name : Name) (at : ℕ) (bytes : List ℕ) (old : Option (List ℕ)) → content v.files name ≡ old → Reaches at old → IsTrueDisk (written v name at bytes old)
  fair_write name at bytes None was reaches = fair_nothing
  fair_write name at bytes (Some c) was reaches = record {
    absent = λ m absent not_gone J there.
        let before = absent_before v.files name m (overwritten c at bytes) absent in
        let from = now_here v.clock there in
        from.2.elsewhere m before.0 (not_former name m not_gone) ∙ fair.absent m before.1 not_gone from.0 from.1;
    gone_absent = λ m gone. absent_after v.files name m (overwritten c at bytes)
        (λ same. let none : content v.files name ≡ None = ap (content v.files) (sym same) ∙ fair.gone_absent m gone in absurd (cc (none, was)))
        (fair.gone_absent m gone);
    former_there = λ n m former. kept_there v.files name n (overwritten c at bytes) (fair.former_there n m former);
    former_gone = fair.former_gone;
    named = λ m there. elim (there_before v.files name m (overwritten c at bytes) there) as (λ _. IsName m) [
      | inl same ↦ fair.named m (ap is_some (ap (content v.files) same ∙ was))
      | inr was ↦ fair.named m was
    ];
    reads = inr (
      refl,
      (
        v.files,
        fair.reads,
        record {
          elsewhere = λ m other not_former. insert_other v.files name m (overwritten c at bytes) other;
          here = torn_to at bytes c (content v.files name) _ was (insert_here v.files name (overwritten c at bytes)) reaches;
          formerly = λ m former. subst (TornFile at (length bytes) (content v.files m)) (sym (insert_other v.files name m (overwritten c at bytes) (former_other name m former))) (torn_not at (length bytes) (content v.files m));
        },
      ),
    );
  }

  fair_sync : (name : Name) → IsTrueDisk (step v (Sync name))
  fair_sync name = record {
    absent = λ m absent not_gone J there. fair.absent m absent not_gone J (now_here v.clock there).0;
    gone_absent = fair.gone_absent;
    former_there = λ n m former. fair.former_there n m former.1;
    former_gone = λ n m former. fair.former_gone n m former.1;
    named = fair.named;
    reads = inr (refl, (fair.reads, refl, λ m former. former_absent name m former));
  }

  fair_rename : (from to : Name) (old : Option (List ℕ)) → content v.files from ≡ old → IsAbsent v.files to → ¬ v.gone to → IsName to → IsTrueDisk (renamed v from to old)
  fair_rename from to None was free not_gone is_name = fair_nothing
  fair_rename from to (Some c) was free not_gone is_name =
      let apart : from ≢ to = λ same. let none : content v.files from ≡ None = ap (content v.files) same ∙ free in absurd (cc (none, was)) in
      record {
        absent = λ m absent not_gone J there.
            let before = absent_before (map.remove v.files from) to m c absent in
            let other : m ≢ from = λ same. not_gone (inr same) in
            let still : ¬ v.gone m = λ gone. not_gone (inl gone) in
            let none : IsAbsent v.files m = sym (remove_other v.files from m other) ∙ before.1 in
            let was = now_here v.clock there in
            elim was.2 as (λ _. IsAbsent J m) [
              | inl same ↦ same m ∙ fair.absent m none still was.0 was.1
              | inr moved ↦ moved.elsewhere m (λ is. elim moved.borne as (λ _. ⊥) [ inl is_from ↦ other (is ∙ is_from) | inr former ↦ not_former from m still (subst (λ (k : Name). v.formerly from k) (sym is) former) ]) before.0
                  ∙ fair.absent m none still was.0 was.1
            ];
        gone_absent = λ m gone. elim gone as (λ _. IsAbsent (map.insert (map.remove v.files from) to c) m) [
          | inl gone ↦ absent_after (map.remove v.files from) to m c (λ same. not_gone (subst v.gone same gone)) (absent_removed v.files from m (fair.gone_absent m gone))
          | inr is ↦ absent_after (map.remove v.files from) to m c (λ same. apart (sym is ∙ same)) (ap (content (map.remove v.files from)) is ∙ remove_here v.files from)
        ];
        former_there = λ n m former. elim former as (λ _. IsThere (map.insert (map.remove v.files from) to c) n) [
          | inl stays ↦ kept_there (map.remove v.files from) to n c (ap is_some (remove_other v.files from n stays.0) ∙ fair.former_there n m stays.1)
          | inr new ↦ ap is_some (ap (λ (k : Name). content (map.insert (map.remove v.files from) to c) k) new.0 ∙ insert_here (map.remove v.files from) to c)
        ];
        former_gone = λ n m former. elim former as (λ _. v.gone m ⊎ (m ≡ from)) [
          | inl stays ↦ inl (fair.former_gone n m stays.1)
          | inr new ↦ ⊎_elim (λ is. inr is) (λ was. inl (fair.former_gone from m was)) new.1
        ];
        named = λ m there. elim (there_before (map.remove v.files from) to m c there) as (λ _. IsName m) [
          | inl same ↦ subst IsName (sym same) is_name
          | inr was ↦ fair.named m (there_still v.files from m was)
        ];
        reads = inr (
          refl,
          (
            v.files,
            fair.reads,
            inr (record {
              name = from;
              borne = inl refl;
              there = insert_here (map.remove v.files from) to c ∙ sym was;
              left = insert_other (map.remove v.files from) to from c apart ∙ remove_here v.files from;
              elsewhere = λ m not_from not_to. insert_other (map.remove v.files from) to m c not_to ∙ remove_other v.files from m not_from;
            }),
          ),
        );
      }

  fair_remove : (name : Name) → IsTrueDisk (step v (Remove name))
  fair_remove name = record {
    absent = λ m absent not_gone J there.
        let other : m ≢ name = λ same. not_gone (inr same) in
        let still : ¬ v.gone m = λ gone. not_gone (inl gone) in
        let none : IsAbsent v.files m = sym (remove_other v.files name m other) ∙ absent in
        let was = now_here v.clock there in
        elim was.2 as (λ _. IsAbsent J m) [
          | inl same ↦ same m ∙ fair.absent m none still was.0 was.1
          | inr removed ↦ removed.elsewhere m other (not_former name m still) ∙ fair.absent m none still was.0 was.1
        ];
    gone_absent = λ m gone. elim gone as (λ _. IsAbsent (map.remove v.files name) m) [
      | inl gone ↦ absent_removed v.files name m (fair.gone_absent m gone)
      | inr is ↦ ap (content (map.remove v.files name)) is ∙ remove_here v.files name
    ];
    former_there = λ n m former. ap is_some (remove_other v.files name n former.0) ∙ fair.former_there n m former.1;
    former_gone = λ n m former. inl (fair.former_gone n m former.1);
    named = λ m there. fair.named m (there_still v.files name m there);
    reads = inr (
      refl,
      (
        v.files,
        fair.reads,
        inr (record {
          here = remove_here v.files name;
          formerly = λ m former. absent_removed v.files name m (former_absent name m former);
          elsewhere = λ m other not_former. remove_other v.files name m other;
        }),
      ),
    );
  }

  gone_none : (o : Option (List ℕ)) → is_some o ≡ false → o ≡ None
  gone_none None is = refl
  gone_none (Some c) is = absurd (cc is)

  fair_settle : IsTrueDisk (step v Settle)
  fair_settle = record {
    absent = λ m absent not_gone J there. gone_none (content J m) ((now_here v.clock there).1 m ∙ ap is_some absent);
    gone_absent = λ m gone. absurd gone;
    former_there = λ n m former. absurd former;
    former_gone = λ n m former. absurd former;
    named = fair.named;
    reads = inr (refl, (fair.reads, λ m. refl));
  }

pub fair_step : (v : DiskView) → IsTrueDisk v → (op : Op) → Meets v op → IsTrueDisk (step v op)
fair_step v fair (Create name) met = fair_create v fair name met.0 met.1 met.2
fair_step v fair (Write name at bytes) met = fair_write v fair name at bytes.items (content v.files name) refl met
fair_step v fair (Sync name) met = fair_sync v fair name
fair_step v fair (Rename from to) met = fair_rename v fair from to (content v.files from) refl met.1 met.2 met.3
fair_step v fair (Remove name) met = fair_remove v fair name
fair_step v fair Settle met = fair_settle v fair

pub fair_after : (v : DiskView) → IsTrueDisk v → (ops : List Op) → MeetAll v ops → IsTrueDisk (after v ops)
fair_after v fair [] met = fair
fair_after v fair (op ∷ ops) met = fair_after (step v op) (fair_step v fair op met.0) ops met.1

pub fair_quiet : (files : Files) → AreNamed files → IsTrueDisk (quiet files)
fair_quiet files named = record {
  absent = λ m absent not_gone J there. there m ∙ absent;
  gone_absent = λ m gone. absurd gone;
  former_there = λ n m former. absurd former;
  former_gone = λ n m former. absurd former;
  named = named;
  reads = λ m. refl;
}
