-- How the program ends where a question has no answer, and which word of a request is at fault.
use Rattle.std.specs.Prelude.{ℕ, ◌/◌, ◌%◌, List, [], ◌∷◌, ◌++◌, codes, slice_index}
use Rattle.std.specs.Fmt.{decimal}
use Rattle.hex.specs.Hex.{lower_digits}
use Rattle.cli_ask.specs.declared.error.AskError.{AskError}
use Rattle.cli_ask.specs.declared.error.AskError.TheVariants as error
use Rattle.cli_ask.specs.declared.error.AskFault.{AskFault}
use Rattle.cli_ask.specs.declared.error.AskFault.TheVariants as fault
use Rattle.cli_ask.specs.declared.question.WordError.{WordError}
use Rattle.cli_ask.specs.declared.question.WordError.TheVariants as word

-- How the program ends by an error.
abbrev pub ask_fault_of : AskError → AskFault
ask_fault_of error.NoMemory = fault.Memory
ask_fault_of error.Output = fault.Output
ask_fault_of (error.Connect e) = fault.Connect
ask_fault_of (error.Broken e) = fault.Cut
ask_fault_of error.Ended = fault.Cut
ask_fault_of error.Cut = fault.Cut
ask_fault_of error.NoLists = fault.Cut
ask_fault_of error.Timeout = fault.Timeout
ask_fault_of error.Faulty = fault.Reply
ask_fault_of error.Unasked = fault.Reply
ask_fault_of (error.Input e) = fault.Input
ask_fault_of (error.Line number e) = fault.Line number
ask_fault_of (error.LongLine number) = fault.Line number
ask_fault_of (error.Refused code) = fault.Refused code
ask_fault_of (error.RefusedLine number code) = fault.Refused code

-- The number of the word that is at fault, from 1 on.
abbrev pub word_number : WordError → ℕ
word_number (word.Type number) = number
word_number (word.IsdAs number e) = number
word_number (word.Number number) = number
word_number (word.Id number) = number

-- A digit of a hexadecimal number.
abbrev pub digit_text : ℕ → List ℕ
digit_text n = slice_index lower_digits n ∷ []

-- The words of a fault. A code has two hexadecimal digits.
abbrev pub ask_fault_text : AskFault → List ℕ
ask_fault_text fault.Memory = codes "memory"
ask_fault_text fault.Output = codes "output"
ask_fault_text (fault.Word number) = codes "word " ++ decimal number
ask_fault_text fault.Connect = codes "connect"
ask_fault_text fault.Cut = codes "cut"
ask_fault_text fault.Timeout = codes "timeout"
ask_fault_text fault.Reply = codes "reply"
ask_fault_text fault.Input = codes "input"
ask_fault_text (fault.Line number) = codes "line " ++ decimal number
ask_fault_text (fault.Refused code) = codes "refused 0x" ++ (digit_text (code / 16) ++ digit_text (code % 16))
