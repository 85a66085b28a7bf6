-- What staging leaves of what is kept.
use Rattle.std.proofs.Common.{◌≡◌, ◌⊎◌, ℕ, ◌<◌, Contains, List, [], ◌∷◌, ◌++◌, length-append, sym, ap, ◌∙◌, subst, arith}
use Rattle.log_model.specs.declared.name.Name.{Name}
use Rattle.log_model.specs.Entry.{Entry, IsEntry}
use Rattle.log_model.specs.LogText.{IsEntryOf, in_version}
use Rattle.log_model.specs.Files.{Files, key_of}
use Rattle.disk_images.specs.Crash.{DiskView}
use Rattle.recovery_laws.specs.Kept.{Kept, IsLike, lasts, with_staged}
use Rattle.recovery_laws.proofs.Likes.{orderly_staged}
use Rattle.log_file.specs.Open.{OpenLog, IsStaged}
use Rattle.log_file.specs.Calls.{IsSameFile}
use Rattle.log_file.proofs.Committed.{open_still}
use Rattle.log_ledger.specs.History.{ClosedLog, History, staged_in}
use Rattle.log_device.specs.Bears.{Bears}
use Rattle.log_device.specs.Keeps.{Keeps, Shows, log_name}

-- files are like what is kept, whatever is staged
like_still : (k : Kept) (e : Entry) (J : Files) → IsLike k J → IsLike (with_staged k e) J
like_still k e J like = record { fit = like.fit; flushed = like.flushed; stored = like.stored; sure = like.sure; only = like.only; numbers = like.numbers }

shows_still : (k : Kept) (e : Entry) (log : Name) (current : List Entry) (J : Files) → Shows k log current J → Shows (with_staged k e) log current J
shows_still k e log current J shows = record { like = like_still k e J shows.like; ended = shows.ended; text = shows.text; up_to = shows.up_to }

pub staged_kept : (file now : OpenLog) (v : DiskView) (h : History) (ns : List ℕ) (e : Entry) → Keeps file v h ns → lasts (lasts h.kept.first h.kept.durable) h.kept.staged e.region < e.number
    → IsSameFile file now → IsStaged now (h.kept.staged ++ e ∷ []) → Keeps now v (staged_in h e) ns
staged_kept file now v h ns e keeps above same staged =
    let number : now.name.number ≡ file.name.number = ap (λ (n : Name). n.number) same.name in record {
      kind = ap (λ (n : Name). n.kind) same.name ∙ keeps.kind;
      region = ap (λ (n : Name). n.region) same.name ∙ keeps.region;
      open_log = open_still file now v h.current same keeps.open_log;
      staged = staged;
      orderly = orderly_staged h.kept e keeps.orderly above;
      images = λ J there. subst (λ (n : Name). Shows (with_staged h.kept e) n h.current J) (sym same.name) (shows_still h.kept e file.name h.current J (keeps.images J there));
      names = λ J there. subst (λ (n : ℕ). Bears h.kept.base ns n J) (sym number) (keeps.names J there);
      served = keeps.served;
      few = λ n found. omega (arith, keeps.few n found, number, same.entries, staged.count, keeps.staged.count, length-append h.kept.staged (e ∷ []), length-append h.kept.durable h.kept.staged, length-append h.kept.durable (h.kept.staged ++ e ∷ []));
      logs = λ c member. let l = keeps.logs c member in (l.0, omega (arith, l.1, number));
      one = keeps.one;
      there = λ m kind there. subst (λ (n : Name). (m ≡ n) ⊎ ((c : ClosedLog) × Contains h.logs c × (log_name c.number ≡ m))) (sym same.name) (keeps.there m kind there);
      gone = λ m is. let g = keeps.gone m is in (g.0, g.1, omega (arith, g.2, number));
      olds = λ m kind there. let o = keeps.olds m kind there in (omega (arith, o.0, number), o.1);
      stores = keeps.stores;
      found = keeps.found;
    }

-- an entry of one of the regions may stand in a log
pub of_log : (file : OpenLog) (e : Entry) → file.name.region ≡ 0 → IsEntry e → IsEntryOf (in_version 2 (key_of file.name)) e
of_log file e is entry = record { entry = entry; region = λ other. absurd (other is); form = λ first. absurd (omega (arith, first)) }
