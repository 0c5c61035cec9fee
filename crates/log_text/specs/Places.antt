-- In which order a reader tries the names of steps.
use Rattle.std.specs.Prelude.{ℕ}
use Rattle.machine.specs.declared.event.EventName.{EventName}
use Rattle.machine.specs.declared.event.EventName.TheVariants.{Local, Load, Store, Swap, CompareSwap, FetchOr, FetchAdd}
use Rattle.machine.specs.declared.event.EventName.TheVariants.{Fork, Print, Wait, Wake, Requeue, FutexLock, FutexCompare}
use Rattle.machine.specs.declared.event.EventName.TheVariants.{Ret, RetValue, Die, Entry, Pending, Clear, Last}
use Rattle.machine.specs.declared.event.EventName.TheVariants.{Stray, Kill}

-- a name's place, from 0; Local has the last
abbrev pub place_of : EventName → ℕ
place_of Local = 22
place_of Load = 0
place_of Store = 1
place_of Swap = 2
place_of CompareSwap = 3
place_of FetchOr = 4
place_of FetchAdd = 5
place_of Fork = 6
place_of Print = 7
place_of Wait = 8
place_of Wake = 9
place_of Requeue = 10
place_of Ret = 11
place_of RetValue = 12
place_of Die = 13
place_of Entry = 14
place_of Pending = 15
place_of Clear = 16
place_of Last = 17
place_of Stray = 18
place_of Kill = 19
place_of FutexLock = 20
place_of FutexCompare = 21
