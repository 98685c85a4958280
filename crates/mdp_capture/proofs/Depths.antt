-- The instrument of a line has a depth of its kind.
use Rattle.std.proofs.Common.{◌≡◌, ◌≤◌, ℕ, ℤ, Bool, true, false, cond, eqb, List, [], ◌∷◌, length, leb, Option, None, Some, Result, Ok, Err, refl, arith}
use Rattle.std.specs.Prelude.{◌&&◌, codes, IfSome}
use Rattle.std.specs.Str.{bytes_eq}
use Rattle.std.proofs.lemmas.Bool.{and_parts, leb-true}
use Rattle.mdp_templates.specs.Entry.{direct_depth}
use Rattle.mdp_templates.specs.Instrument.{HasDepth, IsDepthOf}
use Rattle.mdp_templates.specs.declared.instrument.Instrument.{Instrument}
use Rattle.mdp_templates.specs.declared.feed.Feed.{Feed}
use Rattle.mdp_templates.specs.declared.feed.Feed.TheVariants as feeds
use Rattle.hex.specs.Hex.{decode_of}
use Rattle.hex.specs.declared.error.FromHexError.{FromHexError}
use Rattle.mdp_capture.specs.declared.skip.Skip.TheVariants.{LineForm, TooLong}
use Rattle.mdp_capture.specs.Parsed.{ListsDepth}
use Rattle.mdp_capture.specs.Line.{Blank, Packet, Skipped, KindAndDepth, is_number, decimal, id_of, name_of, depth_of, outright_of, outright_of_fields, calendar_of, calendar_of_fields, kind_of, instrument, instrument_of, listing, packet, packet_of, closing_of, fields, line_of_fields, line_of}

-- a kind with one of its depths
abbrev Fits : KindAndDepth → Type 0
Fits kind = IsDepthOf kind.0 kind.1

either : {X : Type 0} (P : X → Type 0) (b : Bool) (x y : X) → (b ≡ true → P x) → P y → P (cond b x y)
either P true x y one other = one refl
either P false x y one other = other

outright_fits : (depth : Option ℕ) → IfSome depth (λ d. (1 ≤ d) × (d ≤ direct_depth)) → IfSome (outright_of depth) Fits
outright_fits None is = tt
outright_fits (Some depth) is = is

depth_fits : (field : List ℕ) → IfSome (depth_of field) (λ d. (1 ≤ d) × (d ≤ direct_depth))
depth_fits field =
    let number = is_number field && leb 1 (decimal field) in
    either (λ (o : Option ℕ). IfSome o (λ d. (1 ≤ d) × (d ≤ direct_depth))) (number && leb (decimal field) direct_depth) (Some (decimal field)) None
    (λ is.
    let both = and_parts number (leb (decimal field) direct_depth) is in
    (leb-true 1 (decimal field) (and_parts (is_number field) (leb 1 (decimal field)) both.0).1, leb-true (decimal field) direct_depth both.1))
    tt

outright_fields_fit : (rest : List (List ℕ)) → IfSome (outright_of_fields rest) Fits
outright_fields_fit [] = (omega arith, omega arith)
outright_fields_fit (depth ∷ []) = outright_fits (depth_of depth) (depth_fits depth)
outright_fields_fit (depth ∷ more ∷ rest) = tt

calendar_fits : (leg1 leg2 : Option ℤ) → IfSome (calendar_of leg1 leg2) Fits
calendar_fits (Some leg1) (Some leg2) = refl
calendar_fits (Some leg1) None = tt
calendar_fits None leg2 = tt

calendar_fields_fit : (rest : List (List ℕ)) → IfSome (calendar_of_fields rest) Fits
calendar_fields_fit [] = tt
calendar_fields_fit (leg1 ∷ []) = tt
calendar_fields_fit (leg1 ∷ leg2 ∷ []) = calendar_fits (id_of leg1) (id_of leg2)
calendar_fields_fit (leg1 ∷ leg2 ∷ more ∷ rest) = tt

kind_fits : (parts : List (List ℕ)) → IfSome (kind_of parts) Fits
kind_fits [] = tt
kind_fits (letter ∷ rest) =
    either (λ (o : Option KindAndDepth). IfSome o Fits) (bytes_eq letter (codes "O")) (outright_of_fields rest) (cond (bytes_eq letter (codes "C")) (calendar_of_fields rest) None)
    (λ is. outright_fields_fit rest)
    (either (λ (o : Option KindAndDepth). IfSome o Fits) (bytes_eq letter (codes "C")) (calendar_of_fields rest) None (λ is. calendar_fields_fit rest) tt)

instrument_fits : (id : Option ℤ) (name : Option (List ℕ)) (kind : Option KindAndDepth) → IfSome kind Fits → ListsDepth (listing (instrument id name kind))
instrument_fits (Some id) (Some name) (Some kind) fits = fits
instrument_fits (Some id) (Some name) None fits = tt
instrument_fits (Some id) None kind fits = tt
instrument_fits None name kind fits = tt

pub instrument_of_fits : (parts : List (List ℕ)) → ListsDepth (listing (instrument_of parts))
instrument_of_fits [] = tt
instrument_of_fits (id ∷ []) = tt
instrument_of_fits (id ∷ name ∷ kind) = instrument_fits (id_of id) (name_of name) (kind_of kind) (kind_fits kind)

listed_fits : (found : Option Instrument) → ListsDepth (listing found) → IfSome found HasDepth
listed_fits None fits = tt
listed_fits (Some instrument) fits = fits

-- an instrument that fields describe
pub described_fits : (parts : List (List ℕ)) → IfSome (instrument_of parts) HasDepth
described_fits parts = listed_fits (instrument_of parts) (instrument_of_fits parts)

spelled_fits : (feed : Feed) (read : Result (List ℕ) FromHexError) → ListsDepth (packet feed read)
spelled_fits feed (Ok bytes) = either ListsDepth (leb (length bytes) 2048) (Packet feed bytes) (Skipped TooLong) (λ is. tt) tt
spelled_fits feed (Err fault) = tt

packet_fits : (feed : Feed) (rest : List (List ℕ)) → ListsDepth (packet_of feed rest)
packet_fits feed [] = tt
packet_fits feed (digits ∷ []) =
    either ListsDepth (eqb (length digits) 0) (Skipped LineForm) (packet feed (decode_of digits)) (λ is. tt) (spelled_fits feed (decode_of digits))
packet_fits feed (digits ∷ more ∷ rest) = tt

closing_fits : (rest : List (List ℕ)) → ListsDepth (closing_of rest)
closing_fits [] = tt
closing_fits (more ∷ rest) = tt

fields_fit : (parts : List (List ℕ)) → ListsDepth (line_of_fields parts)
fields_fit [] = tt
fields_fit (letter ∷ rest) =
    either ListsDepth (bytes_eq letter (codes "I")) (listing (instrument_of rest)) _ (λ is. instrument_of_fits rest)
    (either ListsDepth (bytes_eq letter (codes "A")) (packet_of feeds.A rest) _ (λ is. packet_fits feeds.A rest)
    (either ListsDepth (bytes_eq letter (codes "B")) (packet_of feeds.B rest) _ (λ is. packet_fits feeds.B rest)
    (either ListsDepth (bytes_eq letter (codes "S")) (packet_of feeds.S rest) _ (λ is. packet_fits feeds.S rest)
    (either ListsDepth (bytes_eq letter (codes "X")) (closing_of rest) (Skipped LineForm) (λ is. closing_fits rest) tt))))

pub line_lists_depth : (text : List ℕ) → ListsDepth (line_of text)
line_lists_depth text = either ListsDepth (eqb (length text) 0) Blank (line_of_fields (fields text)) (λ is. tt) (fields_fit (fields text))
