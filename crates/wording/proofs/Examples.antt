-- Wordings of answers and wrong words of lines, computed by the definitions.
-- Assumes nothing.
use mathlib.Core.Path.{◌≡◌, refl, ap}
use mathlib.Core.Bool.{true, false}
use mathlib.Core.List.{[]}
use lib.IntN.{pos, negsuc}
use Rattle.calendar.specs.Civil.{leap, length_in, length_of, first_day}
use Rattle.calendar.specs.DateLaws.{date_of-day_of_date}
use Rattle.calendar.specs.Dates.{is_date, month_number, day_of_date}
use Rattle.words.specs.Text.{text}
use Rattle.words.specs.Bytes.{blank, control, digit, some, each, uncommented, same}
use Rattle.words.specs.Words.{apart, onto, words, place_in}
use Rattle.words.specs.Numerals.{natural, value_from, natural_of, unsigned_of, negative_of, signed_of}
use Rattle.words.specs.Euros.{is_euros, euros_of as euros_in, amount_of}
use Rattle.words.specs.Hex.{lower_hex, upper_hex, hex_digit, hex_value, hexadecimal, bytes_of_hex}
use Rattle.words.specs.Dates.{is_dated, is_monthed, numbered, dated_day, numbered_month, dated_month, day_in, month_in}
use Rattle.journal.specs.Names.{call_names, role_names, lodged_names, role_of_word, lodged_in, read_number}
use Rattle.journal.specs.Fields.{next_of, faulted, taken, field_of, lodged_field, closed, with_number, next_numbers, words_left}
use Rattle.journal.specs.Fields.{figures_of, list_of, on_lists, lists_of, file_of, checked_file, ended}
use Rattle.journal.specs.Grammar.{fresh_of, admit_of, cash_of, letter_of, lodge_of, release_of}
use Rattle.journal.specs.Grammar.{annual_of, advance_of, statement_of, delete_of, settle_of, special_of, filed, batch_of, calls_of, named_call, words_of, parsed}
use Rattle.journal.specs.declared.Reason.{Reason}
use Rattle.printing.specs.declared.Answer.{Answer}
use Rattle.printing.specs.Decimals.{numeral, decimal}
use Rattle.printing.specs.Columns.{digits, fixed}
use Rattle.printing.specs.Dates.{dated_text, date_text}
use Rattle.wording.specs.WrongWord.{goes_wrong, wrong_from, last_from, wrong_in, wrong_word}
use Rattle.wording.specs.Wording.{causes, cause_text, because, why_refused, of_pair, euros_of, labelled, counted, called_text, total_text, annual_text}
use Rattle.wording.specs.Wording.{deletion_text, statement_text, comma_hint, word_text, wording}

-- Refusals: of a call, of a batch, and by numbers that no cause has.
pub refusals :
    (wording (Answer.Refused 6) [] ≡ text "  the position is filled")
    × (wording (Answer.Refused 25) [] ≡ text "  the participant is under deletion: it has no annual run")
    × (wording (Answer.RefusedPair 2 5) [] ≡ text "  the participant is not admitted (pair 5, counted from 0)")
    × (wording (Answer.Refused 0) [] ≡ [])
    × (wording (Answer.Refused 26) [] ≡ [])
    × (wording (Answer.RefusedPair 26 5) [] ≡ [])
unfolding wording why_refused cause_text causes because of_pair decimal numeral
refusals = (refl, refl, refl, refl, refl, refl)

-- Amounts: a total, a total below zero and below one euro, an amount of some months, a deletion with a call and with none, a statement, a special
-- guarantee.
pub amounts :
    (wording (Answer.Covered (pos 123456)) [] ≡ text "  total 1234.56")
    × (wording (Answer.Recorded (negsuc 4)) [] ≡ text "  total -0.05")
    × (wording (Answer.Annual 3000000 4) [] ≡ text "  next amount 30000.00 from 4 months")
    × (wording (Answer.Deletion 12300 true) [] ≡ text "  amount 123.00, called")
    × (wording (Answer.Deletion 0 false) [] ≡ text "  amount 0.00, not called")
    × (wording (Answer.Statement 2000000 0 2000000 3 123456789 2) []
    ≡ text "  firm 20000.00, cover 0.00, shortfall 20000.00, 3 days charged, charge 1234.56789, 2 calls made")
    × (wording (Answer.Special 12345) [] ≡ text "  123.45")
    × (wording (Answer.Releasable 5) [] ≡ text "  0.05")
    × (wording Answer.Done [] ≡ [])
unfolding wording total_text euros_of annual_text deletion_text statement_text labelled counted fixed digits decimal numeral
amounts = (refl, refl, refl, refl, refl, refl, refl, refl, refl)

-- A call for more, and the day by which it is to be lodged: 12 March 2021 is day 436.
march-2021 : date_text 436 ≡ text "2021-03-12"
unfolding date_text digits day_of_date is_date month_number first_day length_of length_in leap
march-2021 = ap dated_text (date_of-day_of_date 2021 3 12 (record { 0 = 436 }) refl)

pub called : wording (Answer.Called 12345678 2345678 (record { 0 = 436 })) [] ≡ text "  total 123456.78, lodge 23456.78 by 2021-03-12"
unfolding wording called_text labelled fixed digits decimal numeral
called = rw march-2021

-- Errors: an amount with a comma, a word of another kind, a word too many, no such call, a comment with a comma; a line with too few words and one that is
-- not an error of this kind have no wrong word.
pub errors :
    (wording (Answer.Error 3 Reason.NotNumber) (text "lodge 3 0 cash 250,000 1") ≡ text ": 250,000  no comma: whole cents, or euros as 20000.00")
    × (wording (Answer.Error 3 Reason.NotRole) (text "admit  3 Trader # a, b") ≡ text ": Trader")
    × (wording (Answer.Error 3 Reason.NotDay) (text "fresh 2021-04-31") ≡ text ": 2021-04-31")
    × (wording (Answer.Error 3 Reason.TooManyWords) (text "annual 1 2 3") ≡ text ": 2")
    × (wording (Answer.Error 3 Reason.NoCall) (text "settlement 1") ≡ text ": settlement")
    × (wording (Answer.Error 3 Reason.NotCashOrLetter) (text "lodge 1 0 bond 500") ≡ text ": bond")
    × (wording (Answer.Error 3 Reason.TooFewWords) (text "lodge 1 0") ≡ [])
    × (wording (Answer.Error 3 Reason.NotNumber) (text "annual 1") ≡ [])
unfolding wording word_text comma_hint wrong_word wrong_in wrong_from goes_wrong last_from
    parsed words_of named_call calls_of uncommented some control blank words apart onto place_in same call_names role_names lodged_names
    role_of_word lodged_in natural each digit value_from natural_of unsigned_of negative_of signed_of read_number is_dated is_monthed numbered dated_day
    numbered_month dated_month day_in month_in is_date month_number day_of_date first_day length_of length_in leap next_of faulted taken field_of lodged_field closed
    with_number next_numbers words_left figures_of list_of on_lists lists_of fresh_of admit_of cash_of letter_of lodge_of release_of annual_of advance_of
    statement_of delete_of settle_of special_of filed batch_of file_of checked_file ended is_euros euros_in amount_of lower_hex upper_hex hex_digit hex_value hexadecimal bytes_of_hex
errors = (refl, refl, refl, refl, refl, refl, refl, refl)
