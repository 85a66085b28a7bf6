-- What renaming closed logs has done so far.
use Rattle.std.proofs.Common.{◌≡◌, ◌⊎◌, inl, inr, ℕ, ◌+◌, ◌<◌, ◌≤◌, ◌==◌, Bool, true, false, not, List, length, Contains, refl, sym, ap, ◌∙◌, subst, arith}
use Rattle.std.proofs.lemmas.Bool.{cases_eq, cases_lt, eq-eqb, ne_eqb}
use Rattle.std.proofs.lemmas.List.Filters.{length-filter_both}
use Rattle.log_model.specs.Entry.{Entry}
use Rattle.recovery_laws.specs.Kept.{Kept}
use Rattle.log_model.specs.Recovered.{IsWhollyFlushed}
use Rattle.disk_images.specs.Crash.{DiskView}
use Rattle.disk_images.proofs.Moments.{at_once, joined, more_time}
use Rattle.log_file.specs.Open.{OpenLog}
use Rattle.log_ledger.specs.History.{ClosedLog, History, archived_in, is_other, with_logs}
use Rattle.log_ledger.specs.Counted.{NoneMayGoAbove, GoesNext, LogsLeft}
use Rattle.log_device.specs.Bears.{Bears}
use Rattle.log_device.specs.Keeps.{Keeps, Shows, Renames, log_name}
use Rattle.log_device.proofs.Lists.{passes, passed}

-- one after the other
pub renames_on : (log : OpenLog) (k : Kept) (current : List Entry) (ns : List ℕ) (m n : ℕ) (u v w : DiskView) → Renames log k current ns m u v → Renames log k current ns n v w → Renames log k current ns (m + n) u w
renames_on log k current ns m n u v w first second = record {
  any_moment = joined (Shows k log.name current) m n u v w first.any_moment second.any_moment;
  names = joined (Bears k.base ns log.name.number) m n u v w first.names second.names;
  logs = λ number. second.logs number ∙ first.logs number;
}

-- in more calls
pub renames_within : (log : OpenLog) (k : Kept) (current : List Entry) (ns : List ℕ) (m n : ℕ) (u v : DiskView) → m ≤ n → Renames log k current ns m u v → Renames log k current ns n u v
renames_within log k current ns m n u v more over = record {
  any_moment = more_time (Shows k log.name current) m n u v more over.any_moment;
  names = more_time (Bears k.base ns log.name.number) m n u v more over.names;
  logs = over.logs;
}

-- some logs up to this number were renamed, and none of those left up to it may go
pub record SoFar (log : OpenLog) (u v : DiskView) (h : History) (ns : List ℕ) (above : ℕ) : Type 0 where
  pub left : List ClosedLog
  pub calls : ℕ
  pub keeps : Keeps log v (with_logs h left) ns
  pub stays : (c : ClosedLog) → Contains left c → Contains h.logs c
  pub went : (c : ClosedLog) → Contains h.logs c → Contains left c ⊎ (IsWhollyFlushed h.kept.flushed c.entries × (c.number ≤ above))
  pub low : (c : ClosedLog) → Contains left c → 1 ≤ c.number → c.number ≤ above → IsWhollyFlushed h.kept.flushed c.entries → ⊥
  pub total : length left + calls ≤ length h.logs
  pub renames : Renames log h.kept h.current ns calls u v

pub nothing_gone : (log : OpenLog) (u : DiskView) (h : History) (ns : List ℕ) → Keeps log u h ns → SoFar log u u h ns 0
nothing_gone log u h ns keeps = record {
  left = h.logs;
  calls = 0;
  keeps = keeps;
  stays = λ c has. has;
  went = λ c has. inl has;
  low = λ c has given below whole. absurd (omega (arith, given, below));
  total = omega arith;
  renames = record { any_moment = at_once (Shows h.kept log.name h.current) u keeps.images; names = at_once (Bears h.kept.base ns log.name.number) u keeps.names; logs = λ k. refl };
}

twice : (b : Bool) → b ≡ not (not b)
twice true = refl
twice false = refl

-- another number is another log's
apart : (c : ClosedLog) (n : ℕ) → is_other n c ≡ true → c.number ≡ n → ⊥
apart c n other same = cc (ap not (eq-eqb c.number n same), other)

module _ (log : OpenLog) (u v : DiskView) (h : History) (ns : List ℕ) (above n : ℕ) (so_far : SoFar log u v h ns above) (next : GoesNext h above n) (later : above < n) where
  -- the log that goes next is left
  pub is_left : Contains so_far.left next.log
  is_left = elim (so_far.went next.log next.member) as (λ _. Contains so_far.left next.log) [
    | inl stayed ↦ stayed
    | inr gone ↦ absurd (omega (arith, gone.1, next.number, later))
  ]

  abbrev left : List ClosedLog
  left = (archived_in (with_logs h so_far.left) n).logs

  fewer : length left + 1 ≤ length so_far.left
  fewer =
      let those = length-filter_both (is_other n) (λ (c : ClosedLog). c.number == n) (λ c. twice (c.number == n)) so_far.left in
      let one = passes (λ (c : ClosedLog). c.number == n) so_far.left next.log is_left (eq-eqb next.log.number n next.number) in
      omega (arith, those, one.1)

  -- one more is gone
  pub one_gone : (w : DiskView) → Keeps log w (archived_in (with_logs h so_far.left) n) ns → Renames log h.kept h.current ns 1 v w → SoFar log u w h ns n
  one_gone w keeps renames = record {
    left = left;
    calls = so_far.calls + 1;
    keeps = keeps;
    stays = λ c has. so_far.stays c (passed (is_other n) so_far.left c has).0;
    went = λ c has. elim (so_far.went c has) as (λ _. Contains left c ⊎ (IsWhollyFlushed h.kept.flushed c.entries × (c.number ≤ n))) [
      | inl stayed ↦ elim (cases_eq c.number n) as (λ _. Contains left c ⊎ (IsWhollyFlushed h.kept.flushed c.entries × (c.number ≤ n))) [
        | inl same ↦ inr (subst (λ (x : ClosedLog). IsWhollyFlushed h.kept.flushed x.entries) (so_far.keeps.one next.log c is_left stayed (next.number ∙ sym same)) next.flushed, omega (arith, same))
        | inr other ↦ inl (passes (is_other n) so_far.left c stayed (ap not (ne_eqb c.number n other)))
      ]
      | inr gone ↦ inr (gone.0, omega (arith, gone.1, later))
    ];
    low = λ c has given below whole.
        let was = passed (is_other n) so_far.left c has in
        elim (cases_lt above c.number) as (λ _. ⊥) [
          | inl lt ↦ apart c n was.1 (omega (arith, below, next.least c (so_far.stays c was.0) lt whole))
          | inr le ↦ so_far.low c was.0 given le whole
        ];
    total = omega (arith, fewer, so_far.total);
    renames = renames_on log h.kept h.current ns so_far.calls 1 u v w so_far.renames renames;
  }

-- where no log above may go, those that are left are those that aren't wholly flushed
pub all_gone : (log : OpenLog) (u v : DiskView) (h : History) (ns : List ℕ) (above : ℕ) (so_far : SoFar log u v h ns above) → ((c : ClosedLog) → Contains h.logs c → 1 ≤ c.number) → NoneMayGoAbove h above → LogsLeft h so_far.left
all_gone log u v h ns above so_far given none c = (
  λ has. (
    so_far.stays c has,
    λ whole. elim (cases_lt above c.number) as (λ _. ⊥) [
      | inl lt ↦ none c (so_far.stays c has) lt whole
      | inr le ↦ so_far.low c has (given c (so_far.stays c has)) le whole
    ],
  ),
  λ has. elim (so_far.went c has.0) as (λ _. Contains so_far.left c) [ inl stayed ↦ stayed | inr gone ↦ absurd (has.1 gone.0) ],
)

-- what a device keeps asks only which closed logs there are
pub keeps_those : (log : OpenLog) (disk : DiskView) (h : History) (ns : List ℕ) (left others : List ClosedLog) → LogsLeft h left → LogsLeft h others → Keeps log disk (with_logs h left) ns → Keeps log disk (with_logs h others) ns
keeps_those log disk h ns left others these those keeps = record {
  kind = keeps.kind;
  region = keeps.region;
  open_log = keeps.open_log;
  staged = keeps.staged;
  orderly = keeps.orderly;
  images = keeps.images;
  names = keeps.names;
  served = keeps.served;
  few = keeps.few;
  logs = λ c has. keeps.logs c (to c has);
  one = λ c d c_in d_in. keeps.one c d (to c c_in) (to d d_in);
  there = λ m kind there. elim (keeps.there m kind there) as (λ _. (m ≡ log.name) ⊎ ((c : ClosedLog) × Contains others c × (log_name c.number ≡ m))) [
    | inl is ↦ inl is
    | inr one ↦ inr (one.0, (those one.0).1 ((these one.0).0 one.1), one.2)
  ];
  gone = keeps.gone;
  olds = λ m kind there. let o = keeps.olds m kind there in (o.0, λ c has. o.1 c (to c has));
  stores = keeps.stores;
  found = keeps.found;
}
  where
    to : (c : ClosedLog) → Contains others c → Contains left c
    to c has = (these c).1 ((those c).0 has)
