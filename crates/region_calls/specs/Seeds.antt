-- Of what the regions of a server are made.
use Rattle.std.specs.Prelude.{◌≡◌, ℕ, ◌+◌, ◌-◌, ◌<◌, ◌^◌, List, [], ◌∷◌, map, get_or}
use Rattle.std.specs.Arc.{arc_value}
use Rattle.atomic_table.specs.Seated.{TableId}
use Rattle.logbook.specs.Pages.{Book}
use Rattle.hand_register.specs.Desks.{AreParts}
use Rattle.region_model.specs.Journal.{Base}
use Rattle.region_versions.specs.Histories.{no_book, no_base}
use Rattle.pass_calls.specs.log_service.Names.{no_table}
use Rattle.log_ledger.specs.declared.base.RegionBase.{RegionBase}
use Rattle.region_replay.specs.Ready.{Found}
use Rattle.region_calls.specs.declared.seeds.RegionSeeds.{RegionSeeds}

-- a region of this number with no line, its first version, and desks with so many hands
pub record IsSeed (handlers r : ℕ) (s : RegionSeeds) : Type 0 where
  pub region : s.state.region ≡ r
  pub limit : s.state.base.last < 2 ^ 48
  pub no_lines : s.state.lines ≡ []
  pub version_base : (arc_value s.version).base ≡ s.state.base
  pub version_cut : (arc_value s.version).cut ≡ []
  pub desk : AreParts s.desk handlers
  pub spent : AreParts s.spent handlers

-- the regions from this number on
abbrev pub AreSeeds : ℕ → ℕ → List RegionSeeds → Type 0
AreSeeds handlers r [] = Unit {0}
AreSeeds handlers r (s ∷ ss) = IsSeed handlers r s × AreSeeds handlers (r + 1) ss

abbrev pub base_of : RegionSeeds → Base
base_of s = s.state.base

abbrev pub desk_of : RegionSeeds → TableId
desk_of s = s.desk.desk.id

abbrev pub spent_of : RegionSeeds → TableId
spent_of s = s.spent.desk.id

abbrev pub book_of : RegionSeeds → Book
book_of s = s.opened.seen.book

-- the last sequence id of each region
abbrev pub lasts_of : List Base → List ℕ
lasts_of bases = map (λ b. b.last) bases

abbrev pub bases_found : List Found → List Base
bases_found xs = map (λ x. x.base) xs

-- with which numbers a device serves a region, and the regions from one on
abbrev pub mark : ℕ → Found → RegionBase
mark r x = record { region = r; flushed = x.flushed; next_store = x.next_store }

abbrev pub marks_from : ℕ → List Found → List RegionBase
marks_from r [] = []
marks_from r (x ∷ xs) = mark r x ∷ marks_from (r + 1) xs

-- up to which sequence id each is flushed
abbrev pub flushed_of : List RegionBase → List ℕ
flushed_of ms = map (λ m. m.flushed) ms

-- that of a region, of those of region 1 and so on
abbrev pub base_at : List Base → ℕ → Base
base_at bases r = get_or bases (r - 1) no_base

abbrev pub table_at : List TableId → ℕ → TableId
table_at tables r = get_or tables (r - 1) no_table

abbrev pub book_at : List Book → ℕ → Book
book_at books r = get_or books (r - 1) no_book
