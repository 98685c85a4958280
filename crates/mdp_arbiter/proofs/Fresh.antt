-- The front of the newest snapshots that is known to be fresh.
use Rattle.std.proofs.Common.{◌≡◌, ℕ, zero, suc, ◌+◌, ◌≤◌, ◌<◌, Bool, true, false, cond, List, [], ◌∷◌, length, take, drop, get_or, refl, arith, inl, inr, ap, subst, ◌∙◌}
use Rattle.std.proofs.Math.ListN.{set}
use Rattle.std.specs.Prelude.{leb, Option, Some, None, ◌&&◌}
use Rattle.std.specs.Option.{is_none}
use Rattle.std.proofs.lemmas.Grind.{common_steps}
use Rattle.std.proofs.lemmas.Bool.{leb-true, le-leb}
use Rattle.std.proofs.lemmas.Bool.Decides.{leb_tells}
use Rattle.std.proofs.lemmas.List.{length-set}
use Rattle.mdp_templates.specs.Snapshot.{SnapshotContent}
use Rattle.mdp_arbiter.specs.Accepted.{is_newer}
use Rattle.mdp_arbiter.specs.Machine.{is_fresh, are_fresh}
use Rattle.mdp_arbiter.specs.Fates.{first_stale, first_stale_from}
use Rattle.mdp_arbiter.specs.Fronts.{Leads, least_with, nothing_known}
use Rattle.mdp_arbiter.specs.declared.fresh_front.FreshFront.{FreshFront}
use Rattle.mdp_arbiter.proofs.Runs.{both}

-- what includes a packet is fresh as long as that isn't given up
stays_fresh : (room top least : ℕ) (s : Option SnapshotContent) → top ≤ least + room → is_fresh 0 least s ≡ true → is_fresh room top s ≡ true
stays_fresh room top least None past fresh = cc
stays_fresh room top least (Some s) past fresh = let here : least ≤ s.last + 0 = leb-true _ _ fresh in le-leb _ _ (omega (arith, past, here))

-- past a front that is fresh
past_front : (room top least count from : ℕ) (newest : List (Option SnapshotContent)) → top ≤ least + room → are_fresh 0 least (take count newest) ≡ true → count ≤ length newest
    → first_stale_from (from + count) room top (drop count newest) ≡ first_stale_from from room top newest
past_front room top least zero from newest past fresh within = ap (λ n. first_stale_from n room top newest) (omega arith)
past_front room top least (suc count) from [] past fresh within = absurd (omega (arith, within))
past_front room top least (suc count) from (s ∷ newest) past fresh within =
    let each = both (is_fresh 0 least s) (are_fresh 0 least (take count newest)) fresh in
    let here : is_fresh room top s ≡ true = stays_fresh room top least s past each.0 in
    rw here (ap (λ n. first_stale_from n room top (drop count newest)) (omega arith) ∙ past_front room top least count (from + 1) newest past each.1 (omega (arith, within)))

-- where the walk begins
pub begins : (room top : ℕ) (front kept : FreshFront) (newest : List (Option SnapshotContent)) → Leads front newest → kept ≡ cond (leb top (front.least + room)) front nothing_known
    → Leads kept newest × (first_stale_from kept.count room top (drop kept.count newest) ≡ first_stale room top newest)
begins room top front kept newest leads is = elim (leb_tells top (front.least + room)) [
  | inl p ↦ let same : kept ≡ front = rw p.0 at is in
      rw same (
        leads,
        ap (λ n. first_stale_from n room top (drop front.count newest)) (omega arith) ∙ past_front room top front.least front.count 0 newest p.1 leads.1 leads.0,
      )
  | inr p ↦ let same : kept ≡ nothing_known = rw p.0 at is in rw same ((omega arith, refl), refl)
]

-- what is fresh isn't the first that is stale
further : (room top here count : ℕ) (newest : List (Option SnapshotContent)) (s : Option SnapshotContent) → count < length newest → s ≡ get_or newest count s → is_fresh room top s ≡ true
    → first_stale_from (here + 1) room top (drop (suc count) newest) ≡ first_stale_from here room top (drop count newest)
further room top here count [] s within at fresh = absurd (omega (arith, within))
further room top here zero (n ∷ newest) s within at fresh = rw (← at, fresh) refl
further room top here (suc count) (n ∷ newest) s within at fresh = further room top here count newest s (omega (arith, within)) at fresh

-- a lower packet is included too
includes_lower : (more less : ℕ) (s : Option SnapshotContent) → less ≤ more → is_fresh 0 more s ≡ true → is_fresh 0 less s ≡ true
includes_lower more less s low fresh = stays_fresh 0 less more s (omega (arith, low)) fresh

all_include_lower : (more less : ℕ) (newest : List (Option SnapshotContent)) → less ≤ more → are_fresh 0 more newest ≡ true → are_fresh 0 less newest ≡ true
all_include_lower more less [] low fresh = refl
all_include_lower more less (s ∷ newest) low fresh =
    let each = both (is_fresh 0 more s) (are_fresh 0 more newest) fresh in
    rw (includes_lower more less s low each.0) (all_include_lower more less newest low each.1)

includes_own : (room top least : ℕ) (s : Option SnapshotContent) → is_fresh room top s ≡ true → is_fresh 0 (least_with least s) s ≡ true
includes_own room top least None fresh = cc
includes_own room top least (Some s) fresh = le-leb _ _ (omega arith)

least_lowers : (least : ℕ) (s : Option SnapshotContent) → least_with least s ≤ least
least_lowers least None = omega arith
least_lowers least (Some s) = omega arith

-- one place more
front_grows_by : (room top least count : ℕ) (newest : List (Option SnapshotContent)) (s : Option SnapshotContent) → count < length newest → s ≡ get_or newest count s
    → is_fresh room top s ≡ true → are_fresh 0 least (take count newest) ≡ true → are_fresh 0 (least_with least s) (take (suc count) newest) ≡ true
front_grows_by room top least count [] s within at fresh front = absurd (omega (arith, within))
front_grows_by room top least zero (n ∷ newest) s within at fresh front = rw (← at, includes_own room top least s fresh) refl
front_grows_by room top least (suc count) (n ∷ newest) s within at fresh front =
    let each = both (is_fresh 0 least n) (are_fresh 0 least (take count newest)) front in
    rw (includes_lower least (least_with least s) n (least_lowers least s) each.0) (front_grows_by room top least count newest s (omega (arith, within)) at fresh each.1)

-- a turn of the walk
pub walks_on : (room top slot : ℕ) (front grown : FreshFront) (newest : List (Option SnapshotContent)) (s : Option SnapshotContent) → front.count ≡ slot → slot < length newest
    → s ≡ get_or newest slot s → is_fresh room top s ≡ true → Leads front newest → grown.count ≡ slot + 1 → grown.least ≡ least_with front.least s
    → Leads grown newest × (first_stale_from (slot + 1) room top (drop (slot + 1) newest) ≡ first_stale_from slot room top (drop slot newest))
walks_on room top slot front grown newest s known within at fresh leads more least =
    let one : suc slot ≡ slot + 1 = omega arith in
    let grows : are_fresh 0 grown.least (take (suc slot) newest) ≡ true = rw least (front_grows_by room top front.least slot newest s within at fresh (rw known at leads.1)) in (
      (omega (arith, more, within), rw (more, ← one) grows),
      subst (λ n. first_stale_from (slot + 1) room top (drop n newest) ≡ first_stale_from slot room top (drop slot newest)) one (further room top slot slot newest s within at fresh),
    )

-- a newer snapshot in the place of one leaves the front
newer_includes : (least : ℕ) (before : Option SnapshotContent) (s : SnapshotContent) → is_newer before s ≡ true → is_fresh 0 least before ≡ true → is_fresh 0 least (Some s) ≡ true
newer_includes least None s newer fresh = cc
newer_includes least (Some t) s newer fresh = grind (arith, common_steps, newer, fresh)

front_renewed : (least count slot : ℕ) (newest : List (Option SnapshotContent)) (before : Option SnapshotContent) (s : SnapshotContent) → before ≡ get_or newest slot before → is_newer before s ≡ true
    → are_fresh 0 least (take count newest) ≡ true → are_fresh 0 least (take count (set newest slot (Some s))) ≡ true
front_renewed least zero slot newest before s at newer front = refl
front_renewed least (suc count) slot [] before s at newer front = front
front_renewed least (suc count) zero (n ∷ newest) before s at newer front =
    let each = both (is_fresh 0 least n) (are_fresh 0 least (take count newest)) front in
    rw (newer_includes least n s (rw at at newer) each.0) each.1
front_renewed least (suc count) (suc slot) (n ∷ newest) before s at newer front =
    let each = both (is_fresh 0 least n) (are_fresh 0 least (take count newest)) front in
    rw each.0 (front_renewed least count slot newest before s at newer each.1)

pub leads_renewed : (front : FreshFront) (slot : ℕ) (newest : List (Option SnapshotContent)) (before : Option SnapshotContent) (s : SnapshotContent) → before ≡ get_or newest slot before
    → is_newer before s ≡ true → Leads front newest → Leads front (set newest slot (Some s))
leads_renewed front slot newest before s at newer leads =
    (omega (arith, length-set newest slot (Some s), leads.0), front_renewed front.least front.count slot newest before s at newer leads.1)

-- ---- none is stale exactly where all are fresh

none_further : (fresh : Bool) (further : Option ℕ) (all : Bool) (here : ℕ) → is_none further ≡ all → is_none (cond fresh further (Some here)) ≡ fresh && all
none_further true further all here is = is
none_further false further all here is = refl

none_stale_from : (room top from : ℕ) (newest : List (Option SnapshotContent)) → is_none (first_stale_from from room top newest) ≡ are_fresh room top newest
none_stale_from room top from [] = refl
none_stale_from room top from (s ∷ newest) =
    none_further (is_fresh room top s) (first_stale_from (from + 1) room top newest) (are_fresh room top newest) from (none_stale_from room top (from + 1) newest)

pub none_stale : (room top : ℕ) (newest : List (Option SnapshotContent)) → is_none (first_stale room top newest) ≡ are_fresh room top newest
none_stale room top newest = none_stale_from room top 0 newest
