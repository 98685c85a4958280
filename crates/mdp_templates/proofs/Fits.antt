-- Instruments that fit, one after another.
use Rattle.std.proofs.Common.{◌≡◌, ℕ, ◌<◌, ◌≤◌, List, [], ◌∷◌, ◌++◌, length, get_or, take, refl, ◌∙◌, arith, below_more}
use Rattle.std.proofs.lemmas.List.{get_or-take, length-take-le, take-append-le, get_or_append_left, get_or_push, length_push, take_at, get_or_default}
use Rattle.std.proofs.lemmas.Option.{get_or_from_slice_get, slice_get-get_or, slice_get_within}
use Rattle.mdp_templates.specs.Entry.{direct_depth}
use Rattle.mdp_templates.specs.Instrument.{FitsAfter, AreFit, IsDepthOf}
use Rattle.mdp_templates.specs.declared.instrument.Instrument.{Instrument}
use Rattle.mdp_templates.specs.declared.instrument.InstrumentKind.{InstrumentKind}
use Rattle.mdp_templates.specs.declared.instrument.InstrumentKind.TheVariants.{Outright, Calendar}

-- each of the first n instruments fits after those before it
abbrev pub FitSoFar : List Instrument → ℕ → Type 0
FitSoFar xs n = (k : ℕ) (d : Instrument) → k < n → FitsAfter (take k xs) (get_or xs k d)

pub fit : (xs : List Instrument) → 0 < length xs → length xs ≤ 512 → FitSoFar xs (length xs) → AreFit xs
fit xs some few so_far = record {
  some = some;
  few = few;
  ids_differ = λ i j d below within.
      let short : j ≤ length xs = omega arith in
      let len : length (take j xs) ≡ j = length-take-le j xs short in
      let differ = (so_far j d within).id_is_new i d (omega arith) in
      rw (get_or-take j xs i d below) at differ;
  legs_stand = λ place x at_place.
      let within = slice_get_within xs place x at_place in
      let is = get_or_from_slice_get xs place x x at_place in
      let legs = (so_far place x within).legs_stand in
      rw is at legs;
  depths = λ k d below. (so_far k d below).has_depth;
}

pub fits_at : (xs : List Instrument) (k : ℕ) (d : Instrument) → k < length xs → AreFit xs → FitsAfter (take k xs) (get_or xs k d)
fits_at xs k d within fits = record {
  id_is_new = λ i e below.
      let short : k ≤ length xs = omega arith in
      let len : length (take k xs) ≡ k = length-take-le k xs short in
      let low : i < k = omega arith in
      let differ = fits.ids_differ i k d low within in
      let same = get_or-take k xs i e low ∙ get_or_default xs i e d (omega arith) in
      rw same differ;
  legs_stand = fits.legs_stand k (get_or xs k d) (slice_get-get_or xs k d within);
  has_depth = fits.depths k d within;
}

pub fit_push : (xs : List Instrument) (x : Instrument) → FitSoFar xs (length xs) → FitsAfter xs x → FitSoFar (xs ++ x ∷ []) (length (xs ++ x ∷ []))
fit_push xs x so_far fits k d below =
    let P : ℕ → Type 0 = λ k. FitsAfter (take k (xs ++ x ∷ [])) (get_or (xs ++ x ∷ []) k d) in
    below_more P (length xs)
    (λ k low. let short : k ≤ length xs = omega arith in rw (take-append-le k xs (x ∷ []) short, get_or_append_left xs (x ∷ []) d k low) (so_far k d low))
    (rw (take_at xs (x ∷ []) (length xs) refl, get_or_push xs x d (length xs) refl) fits)
    k (omega (arith, length_push xs x))

-- the depth of either kind is from 1 to 10
pub depth_some : (kind : InstrumentKind) (depth : ℕ) → IsDepthOf kind depth → 1 ≤ depth
depth_some Outright depth is = is.0
depth_some (Calendar leg1 leg2) depth is = omega (arith, is)

pub depth_few : (kind : InstrumentKind) (depth : ℕ) → IsDepthOf kind depth → depth ≤ direct_depth
depth_few Outright depth is = is.1
depth_few (Calendar leg1 leg2) depth is = omega (arith, is)
