-- Each call of a history is a call of a disk.
use Rattle.std.proofs.Common.{◌≡◌, ◌≢◌, ◌⊎◌, inl, inr, ℕ, ◌≤◌, List, [], ◌∷◌, ◌++◌, length, Option, Some, is_some, Result, Ok, Err, Vec, refl, sym, ◌∙◌, ap, subst, arith}
use Rattle.std.specs.Prelude.{OnOk, IsErr}
use Rattle.std.specs.declared.alloc.Global.{Global}
use Rattle.std.proofs.lemmas.Result.{on_ok_weaker}
use Rattle.std.specs.FinMap as map
use Rattle.log_model.specs.declared.name.Name.{Name}
use Rattle.log_model.specs.Files.{Files, content, IsAbsent, Reads, SameBut}
use Rattle.disk_images.specs.Crash.{DiskView, Elapses, overwritten, Torn}
use Rattle.disk_images.specs.Calls.{Looks, Creates, Writes, WrittenIn, Syncs, Renames, Renamed, Removes, Settles}
use Rattle.disk_images.proofs.Torn.{untorn, untorn_file}
use Rattle.disk_fakes.specs.declared.op.Op.{Op}
use Rattle.disk_fakes.specs.declared.op.Op.TheVariants.{Create, Write, Sync, Rename, Remove, Settle}
use Rattle.disk_fakes.specs.History.{next, written, renamed, step, after, quiet, IsThere, Reaches, Meets, MeetAll}
use Rattle.disk_fakes.specs.Order.{name_cases, insert_here, insert_other, remove_here, remove_other, same_files}
use Rattle.disk_fakes.specs.Laws.{now_here, torn_over, text_of}
use Rattle.disk_images.proofs.Reading.{reads_some, reads_back}

pub on_all : {T E : Type 0} (r : Result T E) (P : Type 0) → P → OnOk r P
on_all (Ok x) P p = p
on_all (Err e) P p = tt

pub on_none : {T E : Type 0} (r : Result T E) (P : Type 0) → IsErr r → OnOk r P
on_none (Ok x) P is = absurd (cc is)
on_none (Err e) P is = tt

elapses_next : (v : DiskView) (f : Files) (g : Name → Type 0) (h : Name → Name → Type 0) (now : Files → Type 0) → Elapses 1 v (next v f g h now)
elapses_next v f g h now = record {
  later = omega arith;
  by_most = omega arith;
  past = λ t J le there. elim there as (λ _. v.image t J) [ inl early ↦ early.1 | inr late ↦ absurd (omega (arith, le, late.0)) ];
  kept = λ t J le there. inl (le, there);
}

elapses_not : (v : DiskView) → Elapses 1 v v
elapses_not v = record { later = omega arith; by_most = omega arith; past = λ t J le there. there; kept = λ t J le there. there }

pub looks_not : (v : DiskView) → Looks v v
looks_not v = record { files = refl; gone = λ m is. is; formerly = λ n m is. is; crash = λ J now. now; time = elapses_not v }

module _ {T E : Type 0} (r : Result T E) (v : DiskView) where
  pub creates : (name : Name) → Creates name r v (step v (Create name))
  creates name = record {
    created = on_all r _ (insert_here v.files name []);
    either = inr (insert_here v.files name []);
    others = λ m other. insert_other v.files name m [] other;
    gone = λ m is. is;
    formerly = λ n m is. is;
    crash = λ J there. now_here v.clock there;
    time = elapses_next v _ _ _ _;
  }

  pub creates_not : (name : Name) → IsErr r → IsAbsent v.files name → Creates name r v v
  creates_not name failed absent = record {
    created = on_none r _ failed;
    either = inl absent;
    others = λ m other. refl;
    gone = λ m is. is;
    formerly = λ n m is. is;
    crash = λ J now. (J, now, record { elsewhere = λ m other. refl; here = inl refl });
    time = elapses_not v;
  }

-- the view after one call more
pub after_push : (Q : DiskView → Type 0) (v : DiskView) (ops : List Op) (op : Op) → Q (step (after v ops) op) → Q (after v (ops ++ op ∷ []))
after_push Q v [] op q = q
after_push Q v (o ∷ ops) op q = after_push Q (step v o) ops op q

pub did : (Q : DiskView → Type 0) (first first_now : Files) (ops ops_now : List Op) (op : Op) → first_now ≡ first → ops_now ≡ ops ++ op ∷ [] → Q (step (after (quiet first) ops) op) → Q (after (quiet first_now) ops_now)
did Q first first_now ops ops_now op same are q =
    subst (λ (l : List Op). Q (after (quiet first_now) l)) (sym are) (subst (λ (f : Files). Q (after (quiet f) (ops ++ op ∷ []))) (sym same) (after_push Q (quiet first) ops op q))

pub stays : (Q : DiskView → Type 0) (first first_now : Files) (ops ops_now : List Op) → first_now ≡ first → ops_now ≡ ops → Q (after (quiet first) ops) → Q (after (quiet first_now) ops_now)
stays Q first first_now ops ops_now same are q =
    subst (λ (l : List Op). Q (after (quiet first_now) l)) (sym are) (subst (λ (f : Files). Q (after (quiet f) ops)) (sym same) q)

met_push : (v : DiskView) (ops : List Op) (op : Op) → MeetAll v ops → Meets (after v ops) op → MeetAll v (ops ++ op ∷ [])
met_push v [] op met now = (now, tt)
met_push v (o ∷ ops) op met now = (met.0, met_push (step v o) ops op met.1 now)

-- the conditions, after one call more
pub met_more : (first : Files) (ops ops_now : List Op) (op : Op) → MeetAll (quiet first) ops → ops_now ≡ ops ++ op ∷ [] → Meets (after (quiet first) ops) op → MeetAll (quiet first) ops_now
met_more first ops ops_now op met are now = subst (λ (l : List Op). MeetAll (quiet first) l) (sym are) (met_push (quiet first) ops op met now)

pub met_same : (first : Files) (ops ops_now : List Op) → MeetAll (quiet first) ops → ops_now ≡ ops → MeetAll (quiet first) ops_now
met_same first ops ops_now met are = subst (λ (l : List Op). MeetAll (quiet first) l) (sym are) met

-- a condition of a call, from what a caller of a disk knows
pub is_there : (files : Files) (name : Name) → ∥ ((c : List ℕ) × Reads files name c) ∥₁ → IsThere files name
is_there files name h = ap is_some (reads_some files name h).1

pub reaches : (files : Files) (name : Name) (at : ℕ) → ∥ ((c : List ℕ) × Reads files name c × (at ≤ length c)) ∥₁ → Reaches at (content files name)
reaches files name at h = let r = reads_back files name at h in subst (Reaches at) (sym r.1) r.2

-- what the table has of a file that the history has
pub reads_in : (table files : Files) (name : Name) (at : ℕ) → table ≡ files → ∥ ((c : List ℕ) × Reads files name c × (at ≤ length c)) ∥₁ → (c : List ℕ) × Reads table name c × (at ≤ length c)
reads_in table files name at tied h = let r = reads_back files name at h in (r.0, ap (λ (f : Files). content f name) tied ∙ r.1, r.2)

-- the text in the table of a file that is there in the history
pub text_in : (table files : Files) (name : Name) → table ≡ files → IsThere files name → (c : List ℕ) × Reads table name c
text_in table files name tied there = let c = text_of (content files name) there in (c.0, ap (λ (f : Files). content f name) tied ∙ c.1)

pub absent_in : (table files : Files) (name : Name) → table ≡ files → IsAbsent files name → IsAbsent table name
absent_in table files name tied absent = ap (λ (f : Files). content f name) tied ∙ absent

pub put_same : (old new : Files) (name : Name) (c : List ℕ) → Reads new name c → SameBut name old new → new ≡ map.insert old name c
put_same old new name c reads others = same_files (map.insert old name c) new (λ m. elim (name_cases m name) as (λ _. content new m ≡ content (map.insert old name c) m) [
  | inl same ↦ ap (content new) same ∙ reads ∙ sym (insert_here old name c) ∙ ap (content (map.insert old name c)) (sym same)
  | inr other ↦ others m other ∙ sym (insert_other old name m c other)
])

pub removed_same : (old new : Files) (name : Name) → IsAbsent new name → SameBut name old new → new ≡ map.remove old name
removed_same old new name absent others = same_files (map.remove old name) new (λ m. elim (name_cases m name) as (λ _. content new m ≡ content (map.remove old name) m) [
  | inl same ↦ ap (content new) same ∙ absent ∙ sym (remove_here old name) ∙ ap (content (map.remove old name)) (sym same)
  | inr other ↦ others m other ∙ sym (remove_other old name m other)
])

pub tied_create : (first old new : Files) (ops ops_now : List Op) (name : Name) → old ≡ (after (quiet first) ops).files → ops_now ≡ ops ++ Create name ∷ [] → Reads new name [] → SameBut name old new → new ≡ (after (quiet first) ops_now).files
tied_create first old new ops ops_now name tied are reads others =
    did (λ v. new ≡ v.files) first first ops ops_now (Create name) refl are (put_same old new name [] reads others ∙ ap (λ (files : Files). map.insert files name []) tied)

pub tied_write : (first old new : Files) (ops ops_now : List Op) (name : Name) (at : ℕ) (v : Vec ℕ Global) (bytes c : List ℕ) → old ≡ (after (quiet first) ops).files → ops_now ≡ ops ++ Write name at v ∷ [] → v.items ≡ bytes → Reads old name c → Reads new name (overwritten c at bytes) → SameBut name old new → new ≡ (after (quiet first) ops_now).files
tied_write first old new ops ops_now name at v bytes c tied are same was reads others =
    did (λ w. new ≡ w.files) first first ops ops_now (Write name at v) refl are
    (let V = after (quiet first) ops in
    let there : content V.files name ≡ Some c = ap (λ (files : Files). content files name) (sym tied) ∙ was in
    subst (λ (o : Option (List ℕ)). new ≡ (written V name at v.items o).files) (sym there)
    (put_same old new name (overwritten c at v.items) (reads ∙ ap (λ (l : List ℕ). Some (overwritten c at l)) (sym same)) others ∙ ap (λ (files : Files). map.insert files name (overwritten c at v.items)) tied))

pub tied_sync : (first old : Files) (ops ops_now : List Op) (name : Name) → old ≡ (after (quiet first) ops).files → ops_now ≡ ops ++ Sync name ∷ [] → old ≡ (after (quiet first) ops_now).files
tied_sync first old ops ops_now name tied are = did (λ w. old ≡ w.files) first first ops ops_now (Sync name) refl are tied

pub tied_settle : (first old : Files) (ops ops_now : List Op) → old ≡ (after (quiet first) ops).files → ops_now ≡ ops ++ Settle ∷ [] → old ≡ (after (quiet first) ops_now).files
tied_settle first old ops ops_now tied are = did (λ w. old ≡ w.files) first first ops ops_now Settle refl are tied

pub tied_remove : (first old new : Files) (ops ops_now : List Op) (name : Name) → old ≡ (after (quiet first) ops).files → ops_now ≡ ops ++ Remove name ∷ [] → IsAbsent new name → SameBut name old new → new ≡ (after (quiet first) ops_now).files
tied_remove first old new ops ops_now name tied are absent others =
    did (λ w. new ≡ w.files) first first ops ops_now (Remove name) refl are (removed_same old new name absent others ∙ ap (λ (files : Files). map.remove files name) tied)

-- a file put under another name, and then removed under its own
pub moved_same : (old between new : Files) (from to : Name) (c : List ℕ) → Reads old from c → IsAbsent old to → Reads between to c → SameBut to old between → IsAbsent new from → SameBut from between new → new ≡ map.insert (map.remove old from) to c
moved_same old between new from to c was free put others gone rest =
    let apart : to ≢ from = λ same. let one = ap (content old) same ∙ was in absurd (cc (one, free)) in
    same_files (map.insert (map.remove old from) to c) new (λ m. elim (name_cases m to) as (λ _. content new m ≡ content (map.insert (map.remove old from) to c) m) [
      | inl same ↦ ap (content new) same ∙ rest to apart ∙ put ∙ sym (insert_here (map.remove old from) to c) ∙ ap (content (map.insert (map.remove old from) to c)) (sym same)
      | inr other ↦ elim (name_cases m from) as (λ _. content new m ≡ content (map.insert (map.remove old from) to c) m) [
        | inl same ↦ ap (content new) same ∙ gone ∙ sym (remove_here old from) ∙ ap (content (map.remove old from)) (sym same) ∙ sym (insert_other (map.remove old from) to m c other)
        | inr neither ↦ rest m neither ∙ others m other ∙ sym (remove_other old from m neither) ∙ sym (insert_other (map.remove old from) to m c other)
      ]
    ])

pub tied_rename : (first old between new : Files) (ops ops_now : List Op) (from to : Name) (c : List ℕ) → old ≡ (after (quiet first) ops).files → ops_now ≡ ops ++ Rename from to ∷ []
    → Reads old from c → IsAbsent old to → Reads between to c → SameBut to old between → IsAbsent new from → SameBut from between new → new ≡ (after (quiet first) ops_now).files
tied_rename first old between new ops ops_now from to c tied are was free put others gone rest =
    did (λ w. new ≡ w.files) first first ops ops_now (Rename from to) refl are
    (let V = after (quiet first) ops in
    let there : content V.files from ≡ Some c = ap (λ (files : Files). content files from) (sym tied) ∙ was in
    subst (λ (o : Option (List ℕ)). new ≡ (renamed V from to o).files) (sym there)
    (moved_same old between new from to c was free put others gone rest ∙ ap (λ (files : Files). map.insert (map.remove files from) to c) tied))

pub tied_same : (first old new : Files) (ops ops_now : List Op) → old ≡ (after (quiet first) ops).files → ops_now ≡ ops → new ≡ old → new ≡ (after (quiet first) ops_now).files
tied_same first old new ops ops_now tied are same = same ∙ tied ∙ ap (λ (l : List Op). (after (quiet first) l).files) (sym are)

pub all_same : (old new : Files) (name : Name) (c : List ℕ) → Reads old name c → Reads new name c → SameBut name old new → new ≡ old
all_same old new name c was now others = same_files old new (λ m. elim (name_cases m name) as (λ _. content new m ≡ content old m) [
  | inl same ↦ ap (content new) same ∙ now ∙ sym was ∙ ap (content old) (sym same)
  | inr other ↦ others m other
])

none_written : (name : Name) (former : Name → Type 0) (at n : ℕ) (I : Files) → WrittenIn name former at n I I
none_written name former at n I = record { elsewhere = λ m other not_former. refl; here = untorn_file at n (content I name); formerly = λ m is. untorn_file at n (content I m) }

one_content : (files : Files) (name : Name) (c d : List ℕ) → Reads files name c → Reads files name d → c ≡ d
one_content files name c d first second = cc (first, second)

module _ {T E : Type 0} (r : Result T E) (v : DiskView) where
  pub writes_not : (name : Name) (at : ℕ) (bytes : List ℕ) → IsErr r → Writes name at bytes r v v
  writes_not name at bytes failed = record {
    written = on_none r _ failed;
    torn = λ c reads. (c, reads, untorn at (length bytes) c);
    others = λ m other. refl;
    gone = λ m is. is;
    formerly = λ n m is. is;
    crash = λ J now. (J, now, none_written name (v.formerly name) at (length bytes) J);
    time = elapses_not v;
  }

  writes_there : (name : Name) (at : ℕ) (bytes b c : List ℕ) → length b ≡ length bytes → OnOk r (b ≡ bytes) → Reads v.files name c → at ≤ length c → Writes name at bytes r v (written v name at b (Some c))
  writes_there name at bytes b c long whole reads le = record {
    written = on_ok_weaker r (λ (same : b ≡ bytes). λ d was. insert_here v.files name (overwritten c at b) ∙ ap (λ (l : List ℕ). Some (overwritten l at b)) (one_content v.files name c d reads was) ∙ ap (λ (l : List ℕ). Some (overwritten d at l)) same) whole;
    torn = λ d was. (overwritten c at b, insert_here v.files name (overwritten c at b), subst (λ (l : List ℕ). Torn at (length bytes) l (overwritten c at b)) (one_content v.files name c d reads was) (subst (λ (n : ℕ). Torn at n c (overwritten c at b)) long (torn_over at c b le)));
    others = λ m other. insert_other v.files name m (overwritten c at b) other;
    gone = λ m is. is;
    formerly = λ n m is. is;
    crash = λ J there. let from = now_here v.clock there in (from.0, from.1, subst (λ (n : ℕ). WrittenIn name (v.formerly name) at n from.0 J) long from.2);
    time = elapses_next v _ _ _ _;
  }

  pub writes : (name : Name) (at : ℕ) (b : Vec ℕ Global) (bytes : List ℕ) → length b.items ≡ length bytes → OnOk r (b.items ≡ bytes) → (c : List ℕ) × Reads v.files name c × (at ≤ length c) → Writes name at bytes r v (step v (Write name at b))
  writes name at b bytes long whole reads =
      subst (λ (o : Option (List ℕ)). Writes name at bytes r v (written v name at b.items o)) (sym reads.1)
      (writes_there name at bytes b.items reads.0 long whole reads.1 reads.2)

  pub syncs : (name : Name) → Syncs name r v (step v (Sync name))
  syncs name = record {
    looks = record { files = refl; gone = λ m is. is; formerly = λ n m is. is.1; crash = λ J there. (now_here v.clock there).0; time = elapses_next v _ _ _ _ };
    durable = on_all r _ (λ c reads J there. (now_here v.clock there).1 ∙ reads);
    left = on_all r _ (λ m former J there. (now_here v.clock there).2 m former);
    pinned = on_all r _ (λ m former. former.0 refl);
  }

  pub syncs_not : (name : Name) → IsErr r → Syncs name r v v
  syncs_not name failed = record { looks = looks_not v; durable = on_none r _ failed; left = on_none r _ failed; pinned = on_none r _ failed }

  renames_there : (from to : Name) (c : List ℕ) → Reads v.files from c → IsAbsent v.files to → Renames from to r v (renamed v from to (Some c))
  renames_there from to c reads free =
      let apart : from ≢ to = λ same. let one = ap (content v.files) (sym same) ∙ reads in absurd (cc (one, free)) in
      let moved : Renamed from to v.files (map.insert (map.remove v.files from) to c) = record { there = insert_here (map.remove v.files from) to c ∙ sym reads; left = insert_other (map.remove v.files from) to from c apart ∙ remove_here v.files from } in
      record {
        renamed = on_all r _ moved;
        either = inl moved;
        others = λ m not_from not_to. insert_other (map.remove v.files from) to m c not_to ∙ remove_other v.files from m not_from;
        gone = λ m is. is;
        formerly = λ n m is. elim is as (λ _. v.formerly n m ⊎ ((n ≡ to) × ((m ≡ from) ⊎ v.formerly from m))) [ inl stays ↦ inl stays.1 | inr new ↦ inr new ];
        crash = λ J there. now_here v.clock there;
        time = elapses_next v _ _ _ _;
      }

  renames_from : (from to : Name) (c : List ℕ) → Reads v.files from c → IsAbsent v.files to → Renames from to r v (step v (Rename from to))
  renames_from from to c reads free = subst (λ (o : Option (List ℕ)). Renames from to r v (renamed v from to o)) (sym reads) (renames_there from to c reads free)

  pub renames : (from to : Name) → IsThere v.files from → IsAbsent v.files to → Renames from to r v (step v (Rename from to))
  renames from to there free = let text = text_of (content v.files from) there in renames_from from to text.0 text.1 free

  pub renames_not : (from to : Name) → IsErr r → Renames from to r v v
  renames_not from to failed = record {
    renamed = on_none r _ failed;
    either = inr (λ m. refl);
    others = λ m not_from not_to. refl;
    gone = λ m is. inl is;
    formerly = λ n m is. inl is;
    crash = λ J now. (J, now, inl (λ m. refl));
    time = elapses_not v;
  }

  pub removes : (name : Name) → Removes name r v (step v (Remove name))
  removes name = record {
    removed = on_all r _ (remove_here v.files name);
    either = inl (remove_here v.files name);
    others = λ m other. remove_other v.files name m other;
    gone = λ m is. is;
    formerly = λ n m is. is.1;
    crash = λ J there. now_here v.clock there;
    time = elapses_next v _ _ _ _;
  }

  pub removes_not : (name : Name) → IsErr r → Removes name r v v
  removes_not name failed = record {
    removed = on_none r _ failed;
    either = inr (λ m. refl);
    others = λ m other. refl;
    gone = λ m is. inl is;
    formerly = λ n m is. is;
    crash = λ J now. (J, now, inl (λ m. refl));
    time = elapses_not v;
  }

  pub settles : Settles r v (step v Settle)
  settles = record {
    looks = record { files = refl; gone = λ m is. absurd is; formerly = λ n m is. absurd is; crash = λ J there. (now_here v.clock there).0; time = elapses_next v _ _ _ _ };
    pinned = on_all r _ (λ J m there. (now_here v.clock there).1 m);
    none_gone = on_all r _ (λ m is. is);
    none_former = on_all r _ (λ n m is. is);
  }

  pub settles_not : IsErr r → Settles r v v
  settles_not failed = record { looks = looks_not v; pinned = on_none r _ failed; none_gone = on_none r _ failed; none_former = on_none r _ failed }
