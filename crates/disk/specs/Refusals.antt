-- The number of each refusal, as it is reported, and how a fault prints.
use Rattle.std.specs.Prelude.{ℕ, List, ◌++◌, codes, decimal}
use Rattle.disk.specs.declared.fault.Fault.{Fault}
use Rattle.disk.specs.declared.fault.Refusal.{Refusal}
use Rattle.disk.specs.declared.fault.Refusal.TheVariants.{WrongLength, NoSuchBlock, AccessFailed, NotARecord, NotOpen, NoSuchHostOrResource, HostDown, WrongSeat, Early, Late, NotLanded, FlightFull, NumberSpent, NoSuchWrite, BadValue, LogFull, BufferShort, NotALine, QueueFull}

abbrev pub refusal_number : Refusal → ℕ
refusal_number WrongLength = 1
refusal_number NoSuchBlock = 2
refusal_number AccessFailed = 3
refusal_number NotARecord = 4
refusal_number NotOpen = 5
refusal_number NoSuchHostOrResource = 6
refusal_number HostDown = 7
refusal_number WrongSeat = 8
refusal_number Early = 9
refusal_number Late = 10
refusal_number NotLanded = 11
refusal_number FlightFull = 12
refusal_number NumberSpent = 13
refusal_number NoSuchWrite = 14
refusal_number BadValue = 15
refusal_number LogFull = 16
refusal_number BufferShort = 17
refusal_number NotALine = 18
refusal_number QueueFull = 19

-- as `refused 3, block 5, height 0`
abbrev pub fault_text : Fault → List ℕ
fault_text x =
    codes "refused " ++ (decimal (refusal_number x.cause) ++ (codes ", block " ++ (decimal x.number ++ (codes ", height " ++ decimal x.height))))
