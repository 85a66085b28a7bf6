-- What was read isn't damaged, and what is told is the first damage.
use Rattle.std.proofs.Common.{◌≡◌, inl, inr, ℕ, ◌+◌, ◌<◌, List, [], ◌∷◌, ◌++◌, length, take, drop, get_or, Contains, refl, sym, ap, ◌∙◌, subst}
use Rattle.std.specs.FinMap.{keys}
use Rattle.std.proofs.lemmas.List.{take_more, take-append-drop, append_assoc}
use Rattle.log_model.specs.declared.name.Name.{Name}
use Rattle.log_model.specs.declared.damage.Damage.{Damage}
use Rattle.log_model.specs.LogText.{IsLogText}
use Rattle.log_model.specs.StoreText.{IsStoreText}
use Rattle.log_model.specs.Files.{Files, key_of, IsPresent, IsSound}
use Rattle.log_model.specs.Damage.{IsBadName, HasDamage, IsDamage}
use Rattle.log_model.specs.Damage.HasDamage.{Logged, Stored}
use Rattle.log_model.proofs.DamageLaws.{damaged_there, no_bad_name, same_bytes}
use Rattle.log_model.proofs.StoreLaws.{not_damaged}
use Rattle.disk_images.proofs.Settled.{among_names, there_of}
use Rattle.found_files.specs.declared.found.FoundEntry.{FoundEntry}
use Rattle.found_files.specs.declared.found.FoundStore.{FoundStore}
use Rattle.found_files.specs.Names.{IsBadAmong}
use Rattle.found_files.specs.Found.{AreContents, AreRead, store_of}
use Rattle.found_files.specs.Checked.{TellsOne, AreWhole}
use Rattle.found_files.proofs.NameOrder.{by_order}
use Rattle.found_files.proofs.ReadSteps.{contents_of}

pub bad_among : (files : Files) (name : Name) → IsBadName files name → IsBadAmong (keys files) name
bad_among files name (inl high) = inl high
bad_among files name (inr (inl range)) = inr (inl range)
bad_among files name (inr (inr (log, (other, there, old, same)))) = inr (inr (log, (other, among_names files other there, old, same)))

pub bad_name : (files : Files) (name : Name) → IsBadAmong (keys files) name → IsBadName files name
bad_name files name (inl high) = inl high
bad_name files name (inr (inl range)) = inr (inl range)
bad_name files name (inr (inr (log, (other, there, old, same)))) = inr (inr (log, (other, there_of files other there, old, same)))

-- what is told of one file, sound files don't have
pub unsound_one : (files : Files) (name : Name) (damage : Damage) → IsPresent files name → TellsOne files (keys files) name damage → ¬ IsSound files
unsound_one files name damage there (inl (bad, same)) sound = no_bad_name files name sound there (bad_name files name bad)
unsound_one files name damage there (inr (good, (at, same, hurt, unsound))) sound = unsound sound

module _ (told : Type 0) (files : Files) (names : List Name) (es : List FoundEntry) (ss : List FoundStore) (is_told : told) (read : AreContents told files names es ss) where
  -- what was read isn't damaged
  pub undamaged : (m : Name) (at : ℕ) → Contains names m → ¬ HasDamage files m at
  undamaged m at has (Logged bytes is kind damaged) =
      let r = read.logs is_told m has kind in
      damaged.no_text r.0 r.1.ended (subst (λ (b : List ℕ). IsLogText (key_of m) b r.0 r.1.ended) (same_bytes r.1.bytes bytes (sym r.1.there ∙ is)) r.1.text)
  undamaged m at has (Stored bytes is kind damaged) =
      let r = read.stores is_told m bytes has kind is (damaged_there m.region bytes at damaged) in
      not_damaged m.region bytes (store_of r.0) at (read.small is_told m bytes has kind is) (subst (λ (b : List ℕ). IsStoreText m.region b (store_of r.0)) (same_bytes r.3.bytes bytes (sym r.3.there ∙ is)) r.3.text) damaged

module _ (told : Type 0) (files : Files) (names : List Name) (es : List FoundEntry) (ss : List FoundStore) (is_told : told) (read : AreRead told files (keys files) names es ss) where
  pub read_whole : AreWhole files names
  read_whole m at has (inl bad) = read.good m has (bad_among files m bad.1)
  read_whole m at has (inr (good, damage)) = undamaged told files names es ss is_told (contents_of told files (keys files) names es ss read) m at has damage

  told_one : (name : Name) (after : List Name) → keys files ≡ names ++ name ∷ after → (damage : Damage) → TellsOne files (keys files) name damage → IsDamage files damage
  told_one name after is damage (inl (bad, same)) =
      subst (λ (d : Damage). IsDamage files d) (sym same)
      (by_order files names after name 0 is read_whole (inl (there_of files name (subst (λ (l : List Name). Contains l name) (sym is) (Rattle.std.proofs.lemmas.List.Elements.Contains-append_right names (name ∷ after) name (Rattle.found_files.proofs.Placing.first_in name after))), bad_name files name bad, refl)))
  told_one name after is damage (inr (good, (at, same, hurt, unsound))) =
      subst (λ (d : Damage). IsDamage files d) (sym same) (by_order files names after name at is read_whole (inr ((λ bad. good (bad_among files name bad)), hurt)))

pub split_at : (names : List Name) (i : ℕ) (d : Name) → i < length names → names ≡ take i names ++ get_or names i d ∷ drop (i + 1) names
split_at names i d lt =
    sym (take-append-drop (i + 1) names) ∙ ap (λ (l : List Name). l ++ drop (i + 1) names) (take_more names i d lt) ∙ append_assoc (take i names) (get_or names i d ∷ []) (drop (i + 1) names)

pub first_told : (told : Type 0) (files : Files) (names : List Name) (i : ℕ) (d : Name) (es : List FoundEntry) (ss : List FoundStore) → told → names ≡ keys files → i < length names → AreRead told files names (take i names) es ss
    → (damage : Damage) → TellsOne files names (get_or names i d) damage → IsDamage files damage
first_told told files names i d es ss is_told is lt read damage tells =
    told_one told files (take i names) es ss is_told (subst (λ (l : List Name). AreRead told files l (take i names) es ss) is read) (get_or names i d) (drop (i + 1) names) (sym is ∙ split_at names i d lt) damage
    (subst (λ (l : List Name). TellsOne files l (get_or names i d) damage) is tells)
