use mathlib.Core.Path.{sym, ap}
use Rattle.definition.specs.Answer as Answer
use Rattle.answers.proofs.place.Goals as goal

pub returns-in-FactsTooLong : goal.returns-in-FactsTooLong
returns-in-FactsTooLong c = sym (ap Answer.place c.in-FactsTooLong.is)

pub returns-in-FactByte : goal.returns-in-FactByte
returns-in-FactByte c = sym (ap Answer.place c.in-FactByte.is)

pub returns-in-FactName : goal.returns-in-FactName
returns-in-FactName c = sym (ap Answer.place c.in-FactName.is)

pub returns-in-FactElement : goal.returns-in-FactElement
returns-in-FactElement c = sym (ap Answer.place c.in-FactElement.is)

pub returns-in-Arity : goal.returns-in-Arity
returns-in-Arity c = sym (ap Answer.place c.in-Arity.is)

pub returns-in-TooManyRelations : goal.returns-in-TooManyRelations
returns-in-TooManyRelations c = sym (ap Answer.place c.in-TooManyRelations.is)

pub returns-in-TooManyElements : goal.returns-in-TooManyElements
returns-in-TooManyElements c = sym (ap Answer.place c.in-TooManyElements.is)

pub returns-in-QueryTooLong : goal.returns-in-QueryTooLong
returns-in-QueryTooLong c = sym (ap Answer.place c.in-QueryTooLong.is)

pub returns-in-NoToken : goal.returns-in-NoToken
returns-in-NoToken c = sym (ap Answer.place c.in-NoToken.is)

pub returns-in-NoProgram : goal.returns-in-NoProgram
returns-in-NoProgram c = sym (ap Answer.place c.in-NoProgram.is)

pub returns-in-Kind : goal.returns-in-Kind
returns-in-Kind c = sym (ap Answer.place c.in-Kind.is)

pub returns-in-FreeAttributes : goal.returns-in-FreeAttributes
returns-in-FreeAttributes c = sym (ap Answer.place c.in-FreeAttributes.is)

pub returns-in-TooMuch : goal.returns-in-TooMuch
returns-in-TooMuch c = sym (ap Answer.place c.in-TooMuch.is)

pub returns-in-StoreShort : goal.returns-in-StoreShort
returns-in-StoreShort c = sym (ap Answer.place c.in-StoreShort.is)

pub returns-in-NotInFacts : goal.returns-in-NotInFacts
returns-in-NotInFacts c = sym (ap Answer.place c.in-NotInFacts.is)

pub returns-in-BufferShort : goal.returns-in-BufferShort
returns-in-BufferShort c = sym (ap Answer.place c.in-BufferShort.is)

pub returns-in-NoChain : goal.returns-in-NoChain
returns-in-NoChain c = sym (ap Answer.place c.in-NoChain.is)

pub returns-in-Pattern : goal.returns-in-Pattern
returns-in-Pattern c = sym (ap Answer.place c.in-Pattern.is)

pub returns-in-Number : goal.returns-in-Number
returns-in-Number c = sym (ap Answer.place c.in-Number.is)

pub returns-in-FirstArity : goal.returns-in-FirstArity
returns-in-FirstArity c = sym (ap Answer.place c.in-FirstArity.is)

pub returns-in-ResultTooLong : goal.returns-in-ResultTooLong
returns-in-ResultTooLong c = sym (ap Answer.place c.in-ResultTooLong.is)
