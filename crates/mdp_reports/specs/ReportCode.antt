-- How reports are stored: each as its event end and what it tells, or as the numbers of its jump.
use Rattle.std.specs.Prelude.{◌≡◌, ℕ, List, Option, refl, ◌⊎◌}
use Rattle.std.proofs.Common.{inl, inr}
use Rattle.std.specs.Coded.{Coded, code_by, coded×, coded⊎, coded_ℕ, coded_list, coded_option}
use Rattle.mdp_books.specs.declared.event_end.EventEnd.{EventEnd}
use Rattle.mdp_books.specs.contracts.event_end.EventEnd as event_end
use Rattle.mdp_desks.specs.Reports.{Told, Report, of_event_end, of_jump}
use Rattle.mdp_quotes.specs.declared.best.Best.{Best}
use Rattle.mdp_quotes.specs.contracts.best.Best as best
use Rattle.mdp_quotes.specs.declared.top.TopOfBook.{TopOfBook}
use Rattle.mdp_quotes.specs.contracts.top.TopOfBook as top

-- what is told of a security is stored as the tuple of its fields
abbrev pub told_code : Coded Told
told_code =
    code_by (ℕ × (List ℕ × (Option Best × Option TopOfBook)))
    (coded× coded_ℕ (coded× (coded_list coded_ℕ)
    (coded× (coded_option best.the_row.coded) (coded_option top.the_row.coded))))
    (λ t. (t.slot, (t.lines, (t.best, t.top))))
    (λ t. record { slot = t.0; lines = t.1.0; best = t.1.1.0; top = t.1.1.1 })
    (λ _. refl)

abbrev pub all_told_code : Coded (List Told)
all_told_code = coded_list told_code

abbrev pub Parts : Type 0
Parts = (EventEnd × List Told) ⊎ (ℕ × ℕ)

abbrev pub parts_of : Report → Parts
parts_of (of_event_end end ts) = inl (end, ts)
parts_of (of_jump old new) = inr (old, new)

abbrev pub report_from : Parts → Report
report_from (inl parts) = of_event_end parts.0 parts.1
report_from (inr parts) = of_jump parts.0 parts.1

pub same_report : (r : Report) → report_from (parts_of r) ≡ r
same_report (of_event_end end ts) = refl
same_report (of_jump old new) = refl

abbrev pub reports_code : Coded (List Report)
reports_code =
    coded_list (code_by Parts
    (coded⊎ (coded× event_end.the_row.coded all_told_code) (coded× coded_ℕ coded_ℕ))
    parts_of report_from same_report)
