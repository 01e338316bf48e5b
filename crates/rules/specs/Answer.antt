-- Document 01, "Numbered answers", with document 02, (ii): the number of each case and the values that it carries.
-- Assumes nothing.
use Rattle.std.specs.Prelude.{◌≡◌, ℕ, List, [], ◌∷◌, Result, Ok, Err}
use Rattle.rules.specs.declared.Answer.{Answer}
use Rattle.rules.specs.declared.Answer.TheVariants.{Accepted, FrameLength, CoreCount, TaskCount, EmptyMask, Budget, ShortTable, Overloaded, NotTable, JobList, NoUnits, ShortFinishes, BadLine, MissingCore}

-- the column "no."
abbrev pub number_of : Answer → ℕ
number_of Accepted = 0
number_of FrameLength = 1
number_of CoreCount = 2
number_of TaskCount = 3
number_of (EmptyMask task) = 4
number_of (Budget task) = 5
number_of ShortTable = 6
number_of (Overloaded group cores) = 7
number_of NotTable = 8
number_of (JobList job) = 9
number_of (NoUnits job) = 10
number_of ShortFinishes = 11
number_of BadLine = 12
number_of (MissingCore task core) = 13

-- what the conversion of an answer into a number says
abbrev pub NumberOf : Answer → ℕ → Type 0
NumberOf a n = n ≡ number_of a

-- the answer that a test's result is, and what its conversion says
abbrev pub answer_of : Result Unit Answer → Answer
answer_of (Ok _) = Accepted
answer_of (Err a) = a

abbrev pub AnswerOf : Result Unit Answer → Answer → Type 0
AnswerOf r a = a ≡ answer_of r

-- the column "carries": the lowest task, the group and its cores, the job, "the task and the lowest such core"; the result of 0 stands beside the answer
abbrev pub values_of : Answer → List ℕ
values_of Accepted = []
values_of FrameLength = []
values_of CoreCount = []
values_of TaskCount = []
values_of (EmptyMask task) = task ∷ []
values_of (Budget task) = task ∷ []
values_of ShortTable = []
values_of (Overloaded group cores) = group ∷ cores ∷ []
values_of NotTable = []
values_of (JobList job) = job ∷ []
values_of (NoUnits job) = job ∷ []
values_of ShortFinishes = []
values_of BadLine = []
values_of (MissingCore task core) = task ∷ core ∷ []
