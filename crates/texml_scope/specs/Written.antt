-- The builtins, written out. A law of the crate says that the code's table is this one.
use Rattle.std.specs.Prelude.{List, [], ◌∷◌, codes}
use Rattle.texml_scope.specs.declared.builtins.Status.TheVariants.{Built, Later}
use Rattle.texml_scope.specs.Builtins.{Row}
use Rattle.texml_scope.specs.declared.builtins.TheConstants.{EXPANDAFTER, NOEXPAND, CSNAME, STRING, NUMBER, ROMANNUMERAL, THE, JOBNAME, INPUT, ENDINPUT, IF, IFCAT, IFX, IFNUM, IFDIM, IFODD, IFTRUE, IFFALSE, IFCASE, ELSE, OR, FI, ARABIC, ROMAN, CAPITAL_ROMAN, ALPH, CAPITAL_ALPH, IFSTAR, RELAX, DEF, EDEF, GDEF, XDEF, LET, LONG, OUTER, GLOBAL, BEGINGROUP, ENDGROUP, AFTERGROUP, AFTERASSIGNMENT, CATCODE, LCCODE, UCCODE, ESCAPECHAR, ENDLINECHAR, COUNT, DIMEN, SKIP, TOKS, COUNTDEF, DIMENDEF, SKIPDEF, TOKSDEF, CHARDEF, ADVANCE, MULTIPLY, DIVIDE, LOWERCASE, UPPERCASE, IGNORESPACES, NEWCOMMAND, RENEWCOMMAND, PROVIDECOMMAND, NEWENVIRONMENT, RENEWENVIRONMENT, NEWIF, NEWCOUNTER, SETCOUNTER, ADDTOCOUNTER, STEPCOUNTER, REFSTEPCOUNTER, VALUE, ENDCSNAME, PAR, CHAR, SPACE, DOCUMENTCLASS, USEPACKAGE, BEGIN, CHECKEND, VERB, VERBATIM, TABULAR, ENDTABULAR, NEWLINE, MATHOPEN, DISPLAYOPEN, MATHCLOSE, DISPLAYCLOSE, FORMULA, CITE}

-- each with its name, its control names where they are others than its name, and whether it is built
abbrev pub written : List Row
written =
    (EXPANDAFTER, codes "expandafter", [], Built) ∷
    (NOEXPAND, codes "noexpand", [], Built) ∷
    (CSNAME, codes "csname", [], Built) ∷
    (STRING, codes "string", [], Built) ∷
    (NUMBER, codes "number", [], Built) ∷
    (ROMANNUMERAL, codes "romannumeral", [], Built) ∷
    (THE, codes "the", [], Built) ∷
    (JOBNAME, codes "jobname", [], Built) ∷
    (INPUT, codes "input", [], Built) ∷
    (ENDINPUT, codes "endinput", [], Built) ∷
    (IF, codes "if", [], Built) ∷
    (IFCAT, codes "ifcat", [], Built) ∷
    (IFX, codes "ifx", [], Built) ∷
    (IFNUM, codes "ifnum", [], Built) ∷
    (IFDIM, codes "ifdim", [], Built) ∷
    (IFODD, codes "ifodd", [], Built) ∷
    (IFTRUE, codes "iftrue", [], Built) ∷
    (IFFALSE, codes "iffalse", [], Built) ∷
    (IFCASE, codes "ifcase", [], Built) ∷
    (ELSE, codes "else", [], Built) ∷
    (OR, codes "or", [], Built) ∷
    (FI, codes "fi", [], Built) ∷
    (ARABIC, codes "arabic", [], Later) ∷
    (ROMAN, codes "roman", [], Later) ∷
    (CAPITAL_ROMAN, codes "Roman", [], Later) ∷
    (ALPH, codes "alph", [], Later) ∷
    (CAPITAL_ALPH, codes "Alph", [], Later) ∷
    (IFSTAR, codes "ifstar", codes "@ifstar" ∷ [], Later) ∷
    (RELAX, codes "relax", [], Built) ∷
    (DEF, codes "def", [], Built) ∷
    (EDEF, codes "edef", [], Built) ∷
    (GDEF, codes "gdef", [], Built) ∷
    (XDEF, codes "xdef", [], Built) ∷
    (LET, codes "let", [], Built) ∷
    (LONG, codes "long", [], Built) ∷
    (OUTER, codes "outer", [], Built) ∷
    (GLOBAL, codes "global", [], Built) ∷
    (BEGINGROUP, codes "begingroup", [], Built) ∷
    (ENDGROUP, codes "endgroup", [], Built) ∷
    (AFTERGROUP, codes "aftergroup", [], Built) ∷
    (AFTERASSIGNMENT, codes "afterassignment", [], Built) ∷
    (CATCODE, codes "catcode", [], Built) ∷
    (LCCODE, codes "lccode", [], Built) ∷
    (UCCODE, codes "uccode", [], Built) ∷
    (ESCAPECHAR, codes "escapechar", [], Built) ∷
    (ENDLINECHAR, codes "endlinechar", [], Built) ∷
    (COUNT, codes "count", [], Built) ∷
    (DIMEN, codes "dimen", [], Built) ∷
    (SKIP, codes "skip", [], Built) ∷
    (TOKS, codes "toks", [], Built) ∷
    (COUNTDEF, codes "countdef", [], Built) ∷
    (DIMENDEF, codes "dimendef", [], Built) ∷
    (SKIPDEF, codes "skipdef", [], Built) ∷
    (TOKSDEF, codes "toksdef", [], Built) ∷
    (CHARDEF, codes "chardef", [], Built) ∷
    (ADVANCE, codes "advance", [], Built) ∷
    (MULTIPLY, codes "multiply", [], Built) ∷
    (DIVIDE, codes "divide", [], Built) ∷
    (LOWERCASE, codes "lowercase", [], Built) ∷
    (UPPERCASE, codes "uppercase", [], Built) ∷
    (IGNORESPACES, codes "ignorespaces", [], Built) ∷
    (NEWCOMMAND, codes "newcommand", [], Built) ∷
    (RENEWCOMMAND, codes "renewcommand", [], Built) ∷
    (PROVIDECOMMAND, codes "providecommand", [], Built) ∷
    (NEWENVIRONMENT, codes "newenvironment", [], Later) ∷
    (RENEWENVIRONMENT, codes "renewenvironment", [], Later) ∷
    (NEWIF, codes "newif", [], Built) ∷
    (NEWCOUNTER, codes "newcounter", [], Later) ∷
    (SETCOUNTER, codes "setcounter", [], Later) ∷
    (ADDTOCOUNTER, codes "addtocounter", [], Later) ∷
    (STEPCOUNTER, codes "stepcounter", [], Later) ∷
    (REFSTEPCOUNTER, codes "refstepcounter", [], Later) ∷
    (VALUE, codes "value", [], Later) ∷
    (ENDCSNAME, codes "endcsname", [], Built) ∷
    (PAR, codes "par", [], Built) ∷
    (CHAR, codes "char", [], Built) ∷
    (SPACE, codes "space", codes " " ∷ (13 ∷ []) ∷ (9 ∷ []) ∷ [], Built) ∷
    (DOCUMENTCLASS, codes "documentclass", [], Later) ∷
    (USEPACKAGE, codes "usepackage", [], Later) ∷
    (BEGIN, codes "begin", codes "@begin" ∷ [], Later) ∷
    (CHECKEND, codes "checkend", codes "@checkend" ∷ [], Later) ∷
    (VERB, codes "verb", [], Built) ∷
    (VERBATIM, codes "verbatim", [], Later) ∷
    (TABULAR, codes "tabular", [], Later) ∷
    (ENDTABULAR, codes "endtabular", [], Later) ∷
    (NEWLINE, codes "newline", codes "\\" ∷ codes "newline" ∷ [], Built) ∷
    (MATHOPEN, codes "mathopen", codes "(" ∷ [], Later) ∷
    (DISPLAYOPEN, codes "displayopen", codes "[" ∷ [], Later) ∷
    (MATHCLOSE, codes "mathclose", codes ")" ∷ [], Later) ∷
    (DISPLAYCLOSE, codes "displayclose", codes "]" ∷ [], Later) ∷
    (FORMULA, codes "formula", codes "@formula" ∷ [], Later) ∷
    (CITE, codes "cite", [], Later) ∷
    []
