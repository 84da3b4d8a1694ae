-- The number and the text of each refusal.
use Rattle.std.specs.Prelude.{ℕ, ◌+◌, ℤ, pos, negsuc, List, ◌++◌, codes}
use Rattle.std.specs.Fmt.{decimal}
use Rattle.wt_code.specs.declared.refusals.Busy.{Busy}
use Rattle.wt_code.specs.declared.refusals.Busy.TheVariants.{Active, Checkpoint, Resolving, Evicting, Pinned, Unresolved}
use Rattle.wt_code.specs.declared.refusals.Limit.{Limit}
use Rattle.wt_code.specs.declared.refusals.Limit.TheVariants.{Sessions, Tables, Ids, Generations, Checkpoints, Rollbacks, Image}
use Rattle.wt_code.specs.declared.refusals.Invalid.{Invalid}
use Rattle.wt_code.specs.declared.refusals.Invalid.TheVariants.{NoTxn, InTxn, Prepared, FailedTxn, ZeroStamp, BeforeOldest, NotAfterStable, OldestAfterStable, NoCommitStamp, DurableGiven, BeforePrepare, DurableBeforeCommit, Order, NoStampAfterStamp, KeyLong, ValueLong, Unpositioned, InCall, NoCall, NoCkpt, CkptLeft, BadName, BadConfig, Text}
use Rattle.wt_code.specs.declared.refusals.Refusal.{Refusal}
use Rattle.wt_code.specs.declared.refusals.Refusal.TheVariants.{Rollback, DuplicateKey, Corrupt, NotFound, Panic, CacheFull, PrepareConflict, NoTable, DiskFault, Again, NoMemory, Exists, NoSpace, Busy as Refusal_Busy, Invalid as Refusal_Invalid, Limit as Refusal_Limit}

abbrev pub number_of : Refusal → ℤ
number_of (Rollback run id) = negsuc 31799
number_of DuplicateKey = negsuc 31800
number_of (Corrupt offset want found) = negsuc 31801
number_of NotFound = negsuc 31802
number_of (Panic fault) = negsuc 31803
number_of CacheFull = negsuc 31806
number_of (PrepareConflict id) = negsuc 31807
number_of NoTable = pos 2
number_of DiskFault = pos 5
number_of (Again seen) = pos 11
number_of NoMemory = pos 12
number_of (Refusal_Busy what) = pos 16
number_of Exists = pos 17
number_of (Refusal_Invalid why) = pos 22
number_of NoSpace = pos 28
number_of (Refusal_Limit what) = pos 75

abbrev pub busy_text : Busy → List ℕ
busy_text (Active session) = codes "16 busy active s" ++ decimal (session + 1)
busy_text Checkpoint = codes "16 busy checkpoint"
busy_text (Resolving session) = codes "16 busy resolving s" ++ decimal (session + 1)
busy_text (Evicting frame) = codes "16 busy evicting"
busy_text (Pinned session) = codes "16 busy pinned s" ++ decimal (session + 1)
busy_text (Unresolved id) = codes "16 busy unresolved"

abbrev pub limit_text : Limit → List ℕ
limit_text Sessions = codes "75 limit sessions"
limit_text Tables = codes "75 limit tables"
limit_text Ids = codes "75 limit ids"
limit_text Generations = codes "75 limit generations"
limit_text Checkpoints = codes "75 limit checkpoints"
limit_text Rollbacks = codes "75 limit rollbacks"
limit_text Image = codes "75 limit image"

abbrev pub reason_text : Invalid → List ℕ
reason_text NoTxn = codes "22 no transaction"
reason_text InTxn = codes "22 in transaction"
reason_text Prepared = codes "22 prepared"
reason_text FailedTxn = codes "22 failed transaction"
reason_text ZeroStamp = codes "22 zero stamp"
reason_text (BeforeOldest given oldest) = codes "22 before oldest"
reason_text (NotAfterStable given stable) = codes "22 not after stable"
reason_text (OldestAfterStable oldest stable) = codes "22 oldest after stable"
reason_text NoCommitStamp = codes "22 no commit stamp"
reason_text DurableGiven = codes "22 durable given"
reason_text (BeforePrepare given prepare) = codes "22 before prepare"
reason_text (DurableBeforeCommit durable commit) = codes "22 durable before commit"
reason_text (Order given prev) = codes "22 order"
reason_text (NoStampAfterStamp prev) = codes "22 no stamp after stamp"
reason_text (KeyLong len) = codes "22 key long"
reason_text (ValueLong len) = codes "22 value long"
reason_text Unpositioned = codes "22 unpositioned"
reason_text InCall = codes "22 in call"
reason_text NoCall = codes "22 no call"
reason_text NoCkpt = codes "22 no checkpoint"
reason_text CkptLeft = codes "22 checkpoint left"
reason_text BadName = codes "22 name"
reason_text BadConfig = codes "22 config"
reason_text (Text line) = codes "22 text at line " ++ decimal line

abbrev pub corrupt_text : ℕ → ℕ → ℕ → List ℕ
corrupt_text offset want found = codes "-31802 corrupt at " ++ (decimal offset ++ (codes " want " ++ (decimal want ++ (codes " found " ++ decimal found))))

abbrev pub text_of_refusal : Refusal → List ℕ
text_of_refusal (Rollback run id) = codes "-31800 rollback"
text_of_refusal DuplicateKey = codes "-31801 duplicate key"
text_of_refusal (Corrupt offset want found) = corrupt_text offset want found
text_of_refusal NotFound = codes "-31803 not found"
text_of_refusal (Panic fault) = codes "-31804 panic"
text_of_refusal CacheFull = codes "-31807 cache full"
text_of_refusal (PrepareConflict id) = codes "-31808 prepare conflict"
text_of_refusal NoTable = codes "2 no table"
text_of_refusal DiskFault = codes "5 disk fault"
text_of_refusal (Again seen) = codes "11 again"
text_of_refusal NoMemory = codes "12 no memory"
text_of_refusal (Refusal_Busy what) = busy_text what
text_of_refusal Exists = codes "17 exists"
text_of_refusal (Refusal_Invalid why) = reason_text why
text_of_refusal NoSpace = codes "28 no space"
text_of_refusal (Refusal_Limit what) = limit_text what
