-- What contracts see of an accounting.
use Rattle.std.specs.Prelude.{◌-◌, vec_len, vec_capacity}
use Rattle.seq_accounting.specs.declared.accounting.Accounting.TheInside.{Inside}
use Rattle.seq_accounting.specs.Accounts.{Accounts}

abbrev pub accounts_of : Inside → Accounts
accounts_of a = record {
  whole = a.flushed.whole;
  noted = a.noted;
  flushing = a.flushing;
  flushed = a.flushed.families;
  oldest = a.oldest;
  since = a.since;
  current = a.current;
  closed = a.closed.items;
  last = a.last;
  room = vec_capacity a.closed - vec_len a.closed;
}
