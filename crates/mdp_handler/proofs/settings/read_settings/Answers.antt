use Rattle.std.proofs.Common.{◌≡◌, ◌∙◌, ◌<◌, ◌≤◌, ◌^◌, ℕ, Option, Some, ap, arith, subst, sym, codes, map}
use Rattle.std.specs.Prelude.{IfSome, unwrap_or}
use Rattle.std.specs.Str.Parse.{ParsesUnsigned, ExplainsUnsignedError, HasUnsignedDigitsIfOk, digits_value, without_leading_plus}
use Rattle.clap.specs.Words.{Text, fault_of, first_of, found_of, is_simple, is_simple_and_free, matches_of, one_of, one_text, rows_of}
use Rattle.clap.proofs.WalkLemmas.{first_value-rows, one_text-rows}
use Rattle.mdp_handler.specs.CommandLine.{options}
use Rattle.mdp_handler.proofs.Numbers.{number_read}
use Rattle.mdp_handler.proofs.settings.read_settings.Goals as goal

pub returns-clause-fault : goal.returns-clause-fault
returns-clause-fault c =
    let words = map (λ word. word.now) c.args.words.now in
    let known = c.in_ok-command.ensures in
    ap (λ app. fault_of app words) (sym known) ∙ c.in_ok-matches.ensures.kinds (ap is_simple_and_free known)

pub returns-clause-settings : goal.returns-clause-settings
returns-clause-settings c =
    let words = map (λ word. word.now) c.args.words.now in
    let known = c.in_ok-command.ensures in
    let found = found_of c.in_ok-matches.matches in
    let rows : rows_of found ≡ matches_of options words = (c.in_ok-matches.ensures.matches (ap is_simple known)).0 ∙ ap (λ app. matches_of app words) known in
    let read : (name : Text) → one_text found name ≡ one_of name (matches_of options words) = λ name. one_text-rows found name ∙ ap (one_of name) rows in
    record {
      window = (
        λ is.
            let value : c.unwrap_or-window.result ≡ 1024 = c.unwrap_or-window.ensures ∙ ap (λ o. unwrap_or o 1024) (c.get_one.ensures.none (read (codes "window") ∙ is)) in
            omega (arith, value, c.clamp.ensures),
        λ text is numeral low high.
            let digits = digits_value 10 (without_leading_plus text) in
            let fits : digits < 2 ^ 32 = omega (arith, high) in
            let one = number_read _ (λ bs r. ParsesUnsigned 32 10 bs r × ExplainsUnsignedError 10 bs r × HasUnsignedDigitsIfOk bs r) 32 text c.get_one.result (λ x g. g.0) (c.get_one.ensures.value text (read (codes "window") ∙ is)) numeral fits in
            let value : c.unwrap_or-window.result ≡ digits = c.unwrap_or-window.ensures ∙ ap (λ o. unwrap_or o 1024) one in
            omega (arith, value, c.clamp.ensures, low, high),
      );
      workers = (
        λ is. c.in_range.ensures.none (c.get_one-workers.ensures.none (read (codes "workers") ∙ is)),
        λ text is numeral low high.
            let digits = digits_value 10 (without_leading_plus text) in
            let fits : digits < 2 ^ 8 = omega (arith, high) in
            let one = number_read _ (λ bs r. ParsesUnsigned 8 10 bs r × ExplainsUnsignedError 10 bs r × HasUnsignedDigitsIfOk bs r) 8 text c.get_one-workers.result (λ x g. g.0) (c.get_one-workers.ensures.value text (read (codes "workers") ∙ is)) numeral fits in
            (subst (λ (o : Option ℕ). IfSome o (λ n. 1 ≤ n → n ≤ 16 → c.in_range.result ≡ Some n)) one c.in_range.ensures.same) low high,
      );
      in_order = (
        λ is. c.get_flag.ensures.value (read (codes "in-order") ∙ is),
        λ is. c.get_flag.ensures.other (read (codes "in-order") ∙ is),
        λ is. c.get_flag.ensures.none (read (codes "in-order") ∙ is),
      );
      live = (
        λ is. c.get_flag-2.ensures.value (read (codes "live") ∙ is),
        λ is. c.get_flag-2.ensures.other (read (codes "live") ∙ is),
        λ is. c.get_flag-2.ensures.none (read (codes "live") ∙ is),
      );
      start = (
        c.get_flag-3.result,
        (
          λ is. c.get_flag-3.ensures.value (read (codes "join") ∙ is),
          λ is. c.get_flag-3.ensures.other (read (codes "join") ∙ is),
          λ is. c.get_flag-3.ensures.none (read (codes "join") ∙ is),
        ),
        c.start_of.ensures,
      );
      channel = c.get_str.ensures ∙ first_value-rows found (codes "channel") ∙ ap (first_of (codes "channel")) rows;
    }
