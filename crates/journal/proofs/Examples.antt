-- Lines of the journal and what they are, computed by the definitions.
-- Assumes nothing.
use mathlib.Core.Path.{◌≡◌, refl}
use mathlib.Core.List.{[], ◌∷◌}
use lib.IntN.{pos, negsuc}
use Rattle.calendar.specs.Civil.{leap, length_in, length_of, first_day}
use Rattle.calendar.specs.Dates.{is_date, month_number, day_of_date}
use Rattle.words.specs.Text.{text}
use Rattle.words.specs.Bytes.{blank, control, digit, some, each, uncommented, same}
use Rattle.words.specs.Words.{apart, onto, words, place_in}
use Rattle.words.specs.Numerals.{natural, value_from, natural_of, unsigned_of, negative_of, signed_of}
use Rattle.words.specs.Euros.{is_euros, euros_of, amount_of, figure_of}
use Rattle.words.specs.Hex.{lower_hex, upper_hex, hex_digit, hex_value, hexadecimal, bytes_of_hex}
use Rattle.words.specs.Dates.{is_dated, is_monthed, numbered, dated_day, numbered_month, dated_month, day_in, month_in}
use Rattle.journal.specs.Names.{call_names, role_names, lodged_names, role_of_word, lodged_in, read_number}
use Rattle.journal.specs.Fields.{next_of, faulted, taken, field_of, lodged_field, budget_of, closed, with_number, next_numbers, words_left}
use Rattle.journal.specs.Fields.{figures_of, list_of, on_lists, lists_of, file_of, checked_file, ended}
use Rattle.journal.specs.Grammar.{plain, fresh_of, admit_of, cash_of, letter_of, lodge_of, release_of}
use Rattle.journal.specs.Grammar.{annual_of, advance_of, statement_of, delete_of, file_asked_of, releasable_of, settle_of, special_of, filed, batch_of, calls_of, named_call, words_of, parsed}
use Rattle.journal.specs.declared.Reason.{Reason}
use Rattle.journal.specs.declared.Request.{Request}

-- Each line and what it is, with room for as many numbers as stands before it: a comment; `#` ends the line even inside a word; blanks; another
-- control byte; a day by its date and by its number; no 31 April; no 2100; a date has its zeros; one word too many; a role by its name, in lower
-- case alone; numbers too large for their types; a minus where a natural number is due; a plus; a letter; neither cash nor letter; figures, with a
-- minus, and none; more numbers than there is room for; seven lists; a mark has no minus; a list longer than the words left; no such call.
pub examples :
    (parsed 0 (text "# 2021") ≡ plain Request.Nothing)
    × (parsed 0 (text "annual 1#2") ≡ plain (Request.Annual 1))
    × (parsed 0 (text "\tannual  7\r") ≡ plain (Request.Annual 7))
    × (parsed 0 (text "annual\u{b}7") ≡ plain (Request.Error Reason.ControlByte))
    × (parsed 0 (text "fresh 2021-10-01") ≡ plain (Request.Fresh (record { 0 = 639 })))
    × (parsed 0 (text "fresh 000639") ≡ plain (Request.Fresh (record { 0 = 639 })))
    × (parsed 0 (text "fresh 2021-04-31") ≡ plain (Request.Error Reason.NotDay))
    × (parsed 0 (text "fresh 2100-01-01") ≡ plain (Request.Error Reason.NotDay))
    × (parsed 0 (text "fresh 2021-4-30") ≡ plain (Request.Error Reason.NotDay))
    × (parsed 0 (text "fresh 1 2") ≡ plain (Request.Error Reason.TooManyWords))
    × (parsed 0 (text "admit 3 res-aggregator") ≡ plain (Request.Admit 3 4))
    × (parsed 0 (text "admit 3 Trader") ≡ plain (Request.Error Reason.NotRole))
    × (parsed 0 (text "advance 99999999999 18446744073709551616") ≡ plain (Request.Advance (record { 0 = 4294967295 }) 18446744073709551615))
    × (parsed 0 (text "release 1 0 -5") ≡ plain (Request.Error Reason.NotNumber))
    × (parsed 0 (text "settle 1 2021-10 +5") ≡ plain (Request.Error Reason.NotNumber))
    × (parsed 0 (text "lodge 1 0 letter 500 639 2022-01-31") ≡ plain (Request.LodgeLetter 1 0 500 (record { 0 = 639 }) (record { 0 = 761 })))
    × (parsed 0 (text "lodge 1 0 bond 500") ≡ plain (Request.Error Reason.NotCashOrLetter))
    × (parsed 4 (text "settle 1 2021-10 -5 7") ≡ record { request = Request.Settle 1 (record { 0 = 21 }) 2; numbers = negsuc 4 ∷ pos 7 ∷ [] })
    × (parsed 0 (text "settle 1 21") ≡ plain (Request.Settle 1 (record { 0 = 21 }) 0))
    × (parsed 1 (text "settle 1 21 8 9") ≡ record { request = Request.Error Reason.TooLong; numbers = pos 8 ∷ [] })
    × (parsed 9 (text "special 1 -4 0 1 1 0 0 0 0")
    ≡ record {
      request =
          Request.Special
          (record { medium = 1; low = 0; marks = 1; zero_medium = 0; zero_low = 0; excess_medium = 0; excess_low = 0 });
      numbers = negsuc 3 ∷ pos 1 ∷ [];
    })
    × (parsed 9 (text "special 0 0 1 -1 0 0 0 0") ≡ plain (Request.Error Reason.NotNumber))
    × (parsed 9 (text "special 3 1") ≡ record { request = Request.Error Reason.TooFewWords; numbers = pos 1 ∷ [] })
    × (parsed 0 (text "settlement 1") ≡ plain (Request.Error Reason.NoCall))
unfolding parsed words_of named_call calls_of uncommented some control blank words apart onto place_in same call_names role_names lodged_names
    role_of_word lodged_in natural each digit value_from natural_of unsigned_of negative_of signed_of is_euros euros_of amount_of figure_of read_number is_dated is_monthed numbered dated_day
    numbered_month dated_month day_in month_in is_date month_number day_of_date first_day length_of length_in leap next_of faulted taken field_of lodged_field budget_of closed
    with_number next_numbers words_left figures_of list_of on_lists lists_of fresh_of admit_of cash_of letter_of lodge_of release_of annual_of advance_of
    statement_of settle_of special_of
examples =
    (refl, refl, refl, refl, refl, refl, refl, refl, refl, refl, refl, refl, refl, refl, refl, refl, refl, refl, refl, refl, refl, refl, refl, refl)

-- The same of a batch: an empty file; two bytes, in either case; an odd number of digits; another character; more bytes than there is room for,
-- before a word too many; a word too many.
pub batch-examples :
    (parsed 0 (text "batch") ≡ plain (Request.Batch 0))
    × (parsed 2 (text "batch 0aFf") ≡ record { request = Request.Batch 2; numbers = pos 10 ∷ pos 255 ∷ [] })
    × (parsed 2 (text "batch 0af") ≡ plain (Request.Error Reason.NotHex))
    × (parsed 2 (text "batch 0g") ≡ plain (Request.Error Reason.NotHex))
    × (parsed 1 (text "batch 0aff 1") ≡ plain (Request.Error Reason.TooLong))
    × (parsed 2 (text "batch 0aff 1") ≡ plain (Request.Error Reason.TooManyWords))
unfolding parsed words_of named_call calls_of uncommented some control blank words apart onto place_in same call_names each digit lower_hex upper_hex
    hex_digit hex_value hexadecimal bytes_of_hex file_of faulted checked_file ended filed batch_of
batch-examples = (refl, refl, refl, refl, refl, refl)

-- The line that ends the first stretch of a journal: one word, with blanks and a comment; a word too many; no other case.
pub mark-examples :
    (parsed 0 (text "role-retired") ≡ plain Request.RoleRetired)
    × (parsed 0 (text " role-retired # 2024") ≡ plain Request.RoleRetired)
    × (parsed 0 (text "role-retired 1") ≡ plain (Request.Error Reason.TooManyWords))
    × (parsed 0 (text "Role-retired") ≡ plain (Request.Error Reason.NoCall))
unfolding parsed words_of named_call calls_of uncommented some control blank words apart onto place_in same call_names closed
mark-examples = (refl, refl, refl, refl)

-- A deletion: its participant; one that is missing; a minus; a word too many; no other case, and no other name.
pub deletion-examples :
    (parsed 0 (text "delete 5") ≡ plain (Request.Delete 5))
    × (parsed 0 (text "\tdelete 05 # leaves") ≡ plain (Request.Delete 5))
    × (parsed 0 (text "delete") ≡ plain (Request.Error Reason.TooFewWords))
    × (parsed 0 (text "delete -5") ≡ plain (Request.Error Reason.NotNumber))
    × (parsed 0 (text "delete 5 1") ≡ plain (Request.Error Reason.TooManyWords))
    × (parsed 0 (text "Delete 5") ≡ plain (Request.Error Reason.NoCall))
    × (parsed 0 (text "deletion 5") ≡ plain (Request.Error Reason.NoCall))
unfolding parsed words_of named_call calls_of uncommented some control blank words apart onto place_in same call_names natural each digit value_from natural_of
    next_of faulted taken field_of closed delete_of
deletion-examples = (refl, refl, refl, refl, refl, refl, refl)

-- An amount in euros: a release, a lodging of cash and of a letter; a digit in front of the dot; zeros in front; more than the largest number. It is
-- none with one digit behind the dot, three, none, no digit in front, a comma, two dots, a minus; a day's budget and a participant have no euros.
pub euro-examples :
    (parsed 0 (text "release 1 0 20000.00") ≡ plain (Request.Release 1 0 2000000))
    × (parsed 0 (text "lodge 1 0 cash 20000.05") ≡ plain (Request.LodgeCash 1 0 2000005))
    × (parsed 0 (text "lodge 1 0 letter 0.50 639 761") ≡ plain (Request.LodgeLetter 1 0 50 (record { 0 = 639 }) (record { 0 = 761 })))
    × (parsed 0 (text "release 1 0 00020.00") ≡ plain (Request.Release 1 0 2000))
    × (parsed 0 (text "release 1 0 184467440737095516.15") ≡ plain (Request.Release 1 0 18446744073709551615))
    × (parsed 0 (text "release 1 0 184467440737095516.14") ≡ plain (Request.Release 1 0 18446744073709551614))
    × (parsed 0 (text "release 1 0 999999999999999999999.99") ≡ plain (Request.Release 1 0 18446744073709551615))
    × (parsed 0 (text "release 1 0 20000.0") ≡ plain (Request.Error Reason.NotNumber))
    × (parsed 0 (text "release 1 0 20000.000") ≡ plain (Request.Error Reason.NotNumber))
    × (parsed 0 (text "release 1 0 20000.") ≡ plain (Request.Error Reason.NotNumber))
    × (parsed 0 (text "release 1 0 .50") ≡ plain (Request.Error Reason.NotNumber))
    × (parsed 0 (text "release 1 0 20,000") ≡ plain (Request.Error Reason.NotNumber))
    × (parsed 0 (text "release 1 0 20000,00") ≡ plain (Request.Error Reason.NotNumber))
    × (parsed 0 (text "release 1 0 20.000.00") ≡ plain (Request.Error Reason.NotNumber))
    × (parsed 0 (text "release 1 0 -1.05") ≡ plain (Request.Error Reason.NotNumber))
    × (parsed 0 (text "release 1.00 0 5") ≡ plain (Request.Error Reason.NotNumber))
    × (parsed 0 (text "advance 639 1.00") ≡ plain (Request.Error Reason.NotNumber))
unfolding parsed words_of named_call calls_of uncommented some control blank words apart onto place_in same call_names lodged_names lodged_in natural each
    digit value_from natural_of is_euros euros_of amount_of day_in next_of faulted taken field_of lodged_field budget_of closed cash_of letter_of lodge_of
    release_of advance_of
euro-examples =
    (refl, refl, refl, refl, refl, refl, refl, refl, refl, refl, refl, refl, refl, refl, refl, refl, refl)

-- Figures in euros, with a minus and without, beside one in cents; the least and the largest; no two minuses, and no minus behind the dot; the
-- numbers of `special` are in cents alone.
pub figure-examples :
    (parsed 3 (text "settle 1 21 -1.05 20000.00 7") ≡ record { request = Request.Settle 1 (record { 0 = 21 }) 3; numbers = negsuc 104 ∷ pos 2000000 ∷ pos 7 ∷ [] })
    × (parsed 2 (text "settle 1 21 -0.00 -0.01") ≡ record { request = Request.Settle 1 (record { 0 = 21 }) 2; numbers = pos 0 ∷ negsuc 0 ∷ [] })
    × (parsed 2 (text "settle 1 21 -92233720368547758.09 92233720368547758.08")
    ≡ record { request = Request.Settle 1 (record { 0 = 21 }) 2; numbers = negsuc 9223372036854775807 ∷ pos 9223372036854775807 ∷ [] })
    × (parsed 1 (text "settle 1 21 --1.05") ≡ plain (Request.Error Reason.NotNumber))
    × (parsed 1 (text "settle 1 21 1.-5") ≡ plain (Request.Error Reason.NotNumber))
    × (parsed 1 (text "settle 1 21 -1.5") ≡ plain (Request.Error Reason.NotNumber))
    × (parsed 9 (text "special 1 1.05 0 0 0 0 0 0") ≡ plain (Request.Error Reason.NotNumber))
    × (parsed 9 (text "special 0 0 1 1.00 0 0 0 0") ≡ plain (Request.Error Reason.NotNumber))
unfolding parsed words_of named_call calls_of uncommented some control blank words apart onto place_in same call_names natural each digit value_from natural_of
    unsigned_of negative_of signed_of is_euros euros_of amount_of figure_of read_number month_in next_of faulted taken field_of closed with_number next_numbers
    words_left figures_of list_of on_lists lists_of settle_of special_of
figure-examples = (refl, refl, refl, refl, refl, refl, refl, refl)

-- An advance to a day for as many days as there are, with a comment too, and for a number of them.
pub advance-examples :
    (parsed 0 (text "advance 2021-10-01") ≡ plain (Request.Advance (record { 0 = 639 }) 29219))
    × (parsed 0 (text "advance 639 # to 1 October") ≡ plain (Request.Advance (record { 0 = 639 }) 29219))
    × (parsed 0 (text "advance 639 5") ≡ plain (Request.Advance (record { 0 = 639 }) 5))
    × (parsed 0 (text "advance 639 -5") ≡ plain (Request.Error Reason.NotNumber))
    × (parsed 0 (text "advance 639 5 5") ≡ plain (Request.Error Reason.TooManyWords))
    × (parsed 0 (text "advance") ≡ plain (Request.Error Reason.TooFewWords))
    × (parsed 0 (text "advance 2021-04-31") ≡ plain (Request.Error Reason.NotDay))
unfolding parsed words_of named_call calls_of uncommented some control blank words apart onto place_in same call_names natural each digit value_from natural_of
    is_dated numbered dated_day day_in is_date month_number day_of_date first_day length_of length_in leap next_of faulted taken field_of budget_of closed advance_of
advance-examples = (refl, refl, refl, refl, refl, refl, refl)

-- The three questions: a word too many and one too few; a participant by its number alone; no other case.
pub question-examples :
    (parsed 0 (text "file 3") ≡ plain (Request.File 3))
    × (parsed 0 (text "file") ≡ plain (Request.Error Reason.TooFewWords))
    × (parsed 0 (text "file 3 1") ≡ plain (Request.Error Reason.TooManyWords))
    × (parsed 0 (text "file x") ≡ plain (Request.Error Reason.NotNumber))
    × (parsed 0 (text "releasable 3 0") ≡ plain (Request.Releasable 3 0))
    × (parsed 0 (text "releasable 3") ≡ plain (Request.Error Reason.TooFewWords))
    × (parsed 0 (text "releasable 3 0 1.00") ≡ plain (Request.Error Reason.TooManyWords))
    × (parsed 0 (text "today") ≡ plain Request.Today)
    × (parsed 0 (text "today 1") ≡ plain (Request.Error Reason.TooManyWords))
    × (parsed 0 (text "Today") ≡ plain (Request.Error Reason.NoCall))
unfolding parsed words_of named_call calls_of uncommented some control blank words apart onto place_in same call_names natural each digit value_from natural_of
    next_of faulted taken field_of closed file_asked_of releasable_of
question-examples = (refl, refl, refl, refl, refl, refl, refl, refl, refl, refl)
